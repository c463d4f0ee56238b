-- What is read, as values.
use Rattle.std.specs.Option.{option_copied}
use Rattle.follow.specs.declared.words.Line.{Line}
use Rattle.follow.specs.Words as words

abbrev pub written : Line → words.Line
written l = record { me = l.me.now; at = option_copied l.at; rest = l.rest.words.now }
