use Rattle.std.proofs.Common.{◌≤◌, ap, ap₂, ◌∙◌, sym, length, add-one, arith}
use Rattle.std.specs.List.{insert}
use Rattle.chatlist.specs.Dates.{padded}
use Rattle.chatlist.proofs.Padded.{length_padded, put_known, put_none, fits_known, fits_none}
use Rattle.chatlist.proofs.dates.Dates.insert.Goals as goal

pub insert-requires-clause-within : goal.insert-requires-clause-within
insert-requires-clause-within c =
    let known = c.self.inside.known.values in
    let values = ap (λ d. d.values) c.self.view_is in
    let all = length_padded known c.self.inside.len in
    let same = ap length values in
    fits_known known c.self.inside.len c.args.index c.self.invariant (omega (arith, c.requires.within)) c.in-Some.date (rw (values, sym c.in-Some.is) c.requires.fit)

pub returns-in-Some : goal.returns-in-Some
returns-in-Some c =
    let known = c.self.inside.known.values in
    let values = ap (λ d. d.values) c.self.view_is in
    let all = length_padded known c.self.inside.len in
    let same = ap length values in
    let within : c.args.index ≤ c.self.inside.len = omega (arith, c.requires.within) in
    let fits = fits_known known c.self.inside.len c.args.index c.self.invariant within c.in-Some.date (rw (values, sym c.in-Some.is) c.requires.fit) in
    ap₂ padded c.insert.ensures (add-one c.self.inside.len) ∙ put_known known c.self.inside.len c.args.index c.in-Some.date fits within
    ∙ ap₂ (λ vs d. insert vs c.args.index d) values (sym c.in-Some.is)

pub returns-in_default : goal.returns-in_default
returns-in_default c =
    let known = c.self.inside.known.values in
    let values = ap (λ d. d.values) c.self.view_is in
    let all = length_padded known c.self.inside.len in
    let same = ap length values in
    let within : c.args.index ≤ c.self.inside.len = omega (arith, c.requires.within) in
    let fits = fits_none known c.self.inside.len c.args.index c.self.invariant within (rw (values, sym c.in_default.is) c.requires.fit) in
    ap (padded known) (add-one c.self.inside.len) ∙ put_none known c.self.inside.len c.args.index fits within
    ∙ ap₂ (λ vs d. insert vs c.args.index d) values (sym c.in_default.is)
