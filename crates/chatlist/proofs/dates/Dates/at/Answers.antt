use Rattle.std.proofs.Common.{◌≡◌, refl, ap, ◌∙◌, sym, ℕ, Option, Some, None, List, length, get_or, slice_get, is_some, ltb, IfSome, arith}
use Rattle.std.specs.Option.{option_copied}
use Rattle.std.specs.Borrow.{Bor}
use Rattle.std.proofs.lemmas.Bool.{ltb-true, ltb-false}
use Rattle.std.proofs.lemmas.Option.{slice_get_read, slice_get_past}
use Rattle.chatlist.proofs.Padded.{length_padded, padded_at}
use Rattle.chatlist.proofs.dates.Dates.at.Goals as goal

read : (ds : List ℕ) (i : ℕ) (r : Option (Bor ℕ)) → is_some r ≡ ltb i (length ds) → IfSome r (λ x. x.now ≡ get_or ds i x.now) → option_copied r ≡ slice_get ds i
read ds i None there is = sym (slice_get_past ds i (ltb-false i (length ds) (sym there)))
read ds i (Some x) there is = sym (slice_get_read ds (length ds) i x.now refl (ltb-true i (length ds) (sym there)) is)

pub returns : goal.returns
returns c =
    let known = c.self.inside.known.values in
    let values = ap (λ d. d.values) c.self.view_is in
    let all = length_padded known c.self.inside.len in
    let same = ap length values in
    c.copied.ensures ∙ read c.as_slice.result.now c.args.index c.get.result c.get.ensures.lookup.0 c.get.ensures.lookup.1
    ∙ ap (λ ds. slice_get ds c.args.index) c.as_slice.ensures
    ∙ sym (padded_at known c.self.inside.len c.args.index c.copied.result (omega (arith, c.requires)))
    ∙ ap (λ vs. get_or vs c.args.index c.copied.result) values
