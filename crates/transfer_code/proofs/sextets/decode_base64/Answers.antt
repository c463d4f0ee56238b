use Rattle.std.proofs.Common.{◌≡◌, ℕ, List, Result, Ok, length, take, sym, ap, ◌∙◌, arith}
use Rattle.std.specs.Prelude.{filter}
use Rattle.base64.specs.Engines.{standard_no_pad}
use Rattle.base64.specs.GeneralPurpose.{encode_of}
use Rattle.base64.specs.declared.decode.DecodeError.{DecodeError}
use Rattle.transfer_code.specs.Base64.{before_padding, completed, is_symbol}
use Rattle.transfer_code.proofs.Groups.{whole, octets_of, octets_below, completed-filter, octets_of_text}
use Rattle.transfer_code.proofs.sextets.decode_base64.Goals as goal

abbrev decodes : List ℕ → Result (List ℕ) DecodeError
decodes octets = Ok octets

same_octets : (x y : List ℕ) → decodes x ≡ decodes y → x ≡ y
same_octets x y e = cc

pub decode_exactly-requires : goal.decode_exactly-requires
decode_exactly-requires c =
    let text = before_padding c.args.bytes.now in (
      octets_of text,
      octets_below text,
      c.deref.ensures.value ∙ c.in_ok-complete.ensures ∙ ap completed (c.in_ok-symbols.ensures ∙ ap (filter is_symbol) c.before_padding.ensures) ∙ completed-filter text,
    )

pub returns : goal.returns
returns c =
    let text = before_padding c.args.bytes.now in
    let input : c.deref.result.now ≡ encode_of standard_no_pad (octets_of text) =
    c.deref.ensures.value ∙ c.in_ok-complete.ensures ∙ ap completed (c.in_ok-symbols.ensures ∙ ap (filter is_symbol) c.before_padding.ensures) ∙ completed-filter text in
    let octets = same_octets _ _ (sym c.in_ok-out.ensures.value ∙ c.in_ok-out.ensures.strict (octets_of text) (octets_below text) input) in
    let symbols = c.in_ok-symbols.symbols.items in
    let count : c.whole_bytes-whole.result ≡ whole (length symbols) =
    omega (arith, c.in_ok-symbols.symbols.ok.0, c.len.ensures, c.whole_bytes-whole.ensures) in
    c.truncate.ensures.items
    ∙ ap (take c.whole_bytes-whole.result) octets
    ∙ ap (λ n. take n (octets_of text)) (count ∙ ap (λ s. whole (length s)) (c.in_ok-symbols.ensures ∙ ap (filter is_symbol) c.before_padding.ensures))
    ∙ octets_of_text c.args.bytes.now
