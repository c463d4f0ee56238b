use Rattle.std.proofs.Common.{◌≡◌, ◌++◌, ◌∷◌, ◌∙◌, [], append_assoc, ap, map, refl, sym}
use Rattle.std.specs.List.{list_any}
use Rattle.std.specs.Prelude.{bytes_eq}
use Rattle.std.proofs.lemmas.Cmp.{nat_list_eq_equiv}
use Rattle.std.proofs.lemmas.List.{map_push}
use Rattle.lists.specs.Distinct.{each_once}
use Rattle.lists.proofs.DistinctLaws.{firsts_more, member_more}
use Rattle.mime_fields.specs.Params.{base_name}
use Rattle.mime_fields.specs.RawParams.{RawParam}
use Rattle.mime_fields.specs.Views.{AreNamed, known, params_in, shown_names, under}
use Rattle.mime_fields.proofs.param.names_of.Goals as goal

pub loop-seen-preserved : goal.loop-seen-preserved
loop-seen-preserved c =
    let base = λ (param : RawParam). base_name param.name in
    let read = c.loop-seen.invariant in
    let before = read.0 in
    let param = under c.in-Some.name.now c.in-Some._value.now in
    let name = c.base_name.result.now in
    let had = known c.loop-seen.seen in
    let next : params_in c.loop-seen.left.left ≡ param ∷ params_in c.in-Some.rest.left = rw c.in-Some.is at c.in_ok-name.ensures.params in
    let named : AreNamed c.in-Some.rest = rw c.in-Some.is at c.in_ok-name.ensures.named in
    let more : map base before ++ name ∷ [] ≡ map base (before ++ param ∷ []) =
    ap (λ n. map base before ++ n ∷ []) c.base_name.ensures ∙ sym (map_push base before param) in
    let names = sym (firsts_more bytes_eq (λ x y z h k. nat_list_eq_equiv.congr x y z h ∙ k) (map base before) (shown_names c.loop-seen.found.items) name (had name) read.3 (read.2 name)) in (
      before ++ param ∷ [],
      (append_assoc before (param ∷ []) (params_in c.in-Some.rest.left) ∙ ap (λ ps. before ++ ps) (sym next) ∙ read.1),
      (λ q. c.in_ok-push_new.ensures.seen q
          ∙ member_more bytes_eq (map base before) name q (bytes_eq name q) (had q) refl (read.2 q)
          ∙ ap (list_any (λ x. bytes_eq x q)) more),
      (c.in_ok-push_new.ensures.names ∙ names ∙ ap each_once more),
      named,
    )
