-- Transfer encodings (RFC 2045, section 6).
use Rattle.std.specs.Prelude.{ℕ, if◌then◌else◌, List, codes}
use Rattle.kit.specs.Letters.{same_name}
use Rattle.transfer_code.specs.declared.encoding.Encoding.{Encoding}
use Rattle.transfer_code.specs.declared.encoding.Encoding.TheVariants.{Plain, Quoted, Base64}
use Rattle.kit.specs.White.{trim}
use Rattle.transfer_code.specs.Quoted.{decode_quoted}
use Rattle.transfer_code.specs.Base64.{decode_base64}

-- the encoding of a name, whose case does not count (RFC 2045, section 6.1)
abbrev pub encoding_named : List ℕ → Encoding
encoding_named name =
    if same_name name (codes "quoted-printable") then Quoted
    else if same_name name (codes "base64") then Base64
    else Plain

-- the encoding that the body of a field names
abbrev pub encoding_of : List ℕ → Encoding
encoding_of body = encoding_named (trim body)

-- what bytes in an encoding decode to
abbrev pub decode_body : Encoding → List ℕ → List ℕ
decode_body Plain bytes = bytes
decode_body Quoted bytes = decode_quoted bytes
decode_body Base64 bytes = decode_base64 bytes
