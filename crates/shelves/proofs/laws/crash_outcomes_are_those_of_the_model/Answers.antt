use Rattle.outside.proofs.Model.{keeps_model}
use Rattle.outside.proofs.Whole.{all_left}
use Rattle.outside.specs.Places.{Places, content}
use Rattle.outside.specs.Unsynced.{KeepsModel}
use Rattle.outside.specs.declared.shelf.Place.{Place}
use Rattle.outside.specs.declared.shelf.Place.TheVariants.{A, B, T}
use Rattle.shelves.specs.History.{Disk, MayLeave, content_at}
use Rattle.shelves.specs.Disks.{first_of}
use Rattle.shelves.proofs.Conditions.{AreMetBy, are_met}
use Rattle.shelves.proofs.laws.crash_outcomes_are_those_of_the_model.Goals as goal

keeps_at : (d : Disk) (c : Places) → MayLeave d c → (place : Place) → KeepsModel (content_at place d).synced (content_at place d).calls (content c place)
keeps_at d c m A = keeps_model d.a.synced d.a.calls c.a m.0
keeps_at d c m B = keeps_model d.b.synced d.b.calls c.b m.1
keeps_at d c m T = keeps_model d.t.synced d.t.calls c.t m.2

left_all : (d : Disk) (c : Places) → AreMetBy d → ((place : Place) → KeepsModel (content_at place d).synced (content_at place d).calls (content c place)) → MayLeave d c
left_all d c met k = (all_left d.a.synced d.a.calls c.a met.a.met (k A), all_left d.b.synced d.b.calls c.b met.b.met (k B), all_left d.t.synced d.t.calls c.t met.t.met (k T))

pub returns-clause-only : goal.returns-clause-only
returns-clause-only c = keeps_at _

pub returns-clause-all : goal.returns-clause-all
returns-clause-all c x k =
    let disk = c.args.shelf.now.disk in
    left_all _ x (are_met (first_of disk) disk.events.items) k
