use Rattle.std.proofs.Common.{◌∙◌, refl, sym, ap, subst, Some}
use Rattle.std.specs.Option.{IsSome, option_copied_mut, option_and_then}
use Rattle.std.specs.Ordering.{nat_cmp}
use Rattle.std.specs.Cmp.Lexicographic.{slice_cmp}
use Rattle.std.specs.BTreeMap.{get_by, is_at}
use Rattle.thread_links.specs.declared.kept.Kept.{Kept}
use Rattle.thread_links.proofs.KeptLaws.{looked, changed, same_cites, chat_here, chat_elsewhere}
use Rattle.thread_links.proofs.kept.set_chat.Goals as goal

pub returns-in-Some-clause-before : goal.returns-in-Some-clause-before
returns-in-Some-clause-before c =
    let found = sym (looked c.args.kept.now.entries c.args.id.now) ∙ sym c.get_mut.ensures.value ∙ ap option_copied_mut c.in-Some.is in
    c.replace.ensures.value ∙ sym (ap (option_and_then (λ (k : Kept). k.chat)) found)

pub returns-in-Some-clause-cites : goal.returns-in-Some-clause-cites
returns-in-Some-clause-cites c =
    let id = c.args.id.now in
    let place : Kept = record { cites = c.in-Some.kept.now.cites; chat = c.replace.new.self } in
    let found = sym c.get_mut.ensures.value ∙ ap option_copied_mut c.in-Some.is in
    let holds = c.get_mut.follows.holds place in
    rw holds.0 (same_cites (is_at (slice_cmp nat_cmp id)) c.args.kept.now.entries c.in-Some.kept.now place found refl)

pub returns-in-Some-clause-chat : goal.returns-in-Some-clause-chat
returns-in-Some-clause-chat c =
    let id = c.args.id.now in
    let place : Kept = record { cites = c.in-Some.kept.now.cites; chat = c.replace.new.self } in
    let found = sym c.get_mut.ensures.value ∙ ap option_copied_mut c.in-Some.is in
    let some : IsSome (get_by (slice_cmp nat_cmp id) c.args.kept.now) = rw found refl in
    chat_here c.args.kept.now.entries (c.get_mut.follows.lender place).entries id place c.args.chat c.replace.ensures.after
    (changed c.args.kept.now.entries (c.get_mut.follows.lender place).entries id (Some place) ((c.get_mut.follows.holds place).3 some).0)

pub returns-in-Some-clause-others : goal.returns-in-Some-clause-others
returns-in-Some-clause-others c =
    let id = c.args.id.now in
    let place : Kept = record { cites = c.in-Some.kept.now.cites; chat = c.replace.new.self } in
    let found = sym c.get_mut.ensures.value ∙ ap option_copied_mut c.in-Some.is in
    let some : IsSome (get_by (slice_cmp nat_cmp id) c.args.kept.now) = rw found refl in
    chat_elsewhere c.args.kept.now.entries (c.get_mut.follows.lender place).entries id (Some place)
    (changed c.args.kept.now.entries (c.get_mut.follows.lender place).entries id (Some place) ((c.get_mut.follows.holds place).3 some).0)

pub returns-in-None-clause-before : goal.returns-in-None-clause-before
returns-in-None-clause-before c =
    let found = sym (looked c.args.kept.now.entries c.args.id.now) ∙ sym c.get_mut.ensures.value ∙ ap option_copied_mut c.in-None.is in
    sym (ap (option_and_then (λ (k : Kept). k.chat)) found)

pub returns-in-None-clause-chat : goal.returns-in-None-clause-chat
returns-in-None-clause-chat c =
    let found = sym (looked c.args.kept.now.entries c.args.id.now) ∙ sym c.get_mut.ensures.value ∙ ap option_copied_mut c.in-None.is in
    let gone = subst IsSome found c.requires.kept in
    cc
