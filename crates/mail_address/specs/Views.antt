-- What a contract sees of what the reader borrows and keeps.
use Rattle.std.specs.Prelude.{false}
use Rattle.mail_address.specs.declared.element.Element.{Element}
use Rattle.mail_address.specs.declared.element.Joined.{Joined}
use Rattle.mail_address.specs.declared.token.Token.{Token as Lent}
use Rattle.mail_address.specs.declared.token.Token.TheVariants.{Atom as LentAtom, Quoted as LentQuoted, Open as LentOpen, Close as LentClose, Colon as LentColon, End as LentEnd}
use Rattle.mail_address.specs.States.{Atoms, State}
use Rattle.mail_address.specs.Tokens.{Token, Atom, Quoted, Open, Close, Colon, End, unquoted}

abbrev pub seen : Lent → Token
seen (LentAtom bytes) = Atom bytes.now
seen (LentQuoted bytes) = Quoted (unquoted false bytes.now)
seen LentOpen = Open
seen LentClose = Close
seen LentColon = Colon
seen LentEnd = End

abbrev pub atoms : Joined → Atoms
atoms a = record { bytes = a.bytes.items; whole = a.whole; free = a.free }

abbrev pub state : Element → State
state e = record { position = e.position; address = atoms e.address; name = e.name.items }
