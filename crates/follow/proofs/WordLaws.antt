-- What the grammar writes for a request reads back as that request.
use Rattle.std.proofs.Common.{◌≡◌, ℕ, Bool, true, false, refl, subst, List, ◌++◌, Option, Some, None, append_assoc}
use Rattle.std.specs.Prelude.{codes, bytes_eq}
use Rattle.std.proofs.lemmas.Slice.Eq.{bytes_eq-Decides}
use Rattle.follow.specs.declared.words.Command.{Command}
use Rattle.follow.specs.declared.words.Request.{Request}
use Rattle.follow.specs.Grammar.{IsOption, AreOptions, IsCommand, IsRequest}
use Rattle.follow.specs.Grammar.IsOption.{Joined, Apart}
use Rattle.follow.specs.Grammar.IsMe.{Me}
use Rattle.follow.specs.Grammar.IsAt.{At}
use Rattle.follow.specs.Grammar.AreOptions.{Alone, MeFirst, AtFirst}
use Rattle.follow.specs.Grammar.IsCommand.{ListChats, ListContacts, ShowChat, ShowUpdates, InfoFirst, InfoLast, MakeTrial}
use Rattle.follow.specs.Grammar.IsRequest.{Line}
use Rattle.follow.specs.Words.{is_value, moment_if_given, option_at, own_address, line, line_of, command_of, request}
use Rattle.follow.specs.Words as as_written

me_reads : (text : List ℕ) (words rest : List (List ℕ)) → IsOption (codes "--me") text words → option_at (codes "--me") (words ++ rest) ≡ Some (text, rest)
me_reads _ _ rest (Joined text) = refl
me_reads _ _ rest (Apart text is) = rw is refl

at_reads : (text : List ℕ) (words rest : List (List ℕ)) → IsOption (codes "--at") text words → option_at (codes "--at") (words ++ rest) ≡ Some (text, rest)
at_reads _ _ rest (Joined text) = refl
at_reads _ _ rest (Apart text is) = rw is refl

-- neither `--me` nor a command is `--at`
me_is_not_at : (text : List ℕ) (words rest : List (List ℕ)) → IsOption (codes "--me") text words → option_at (codes "--at") (words ++ rest) ≡ None
me_is_not_at _ _ rest (Joined text) = refl
me_is_not_at _ _ rest (Apart text is) = refl

command_is_not_at : (c : Command) (words : List (List ℕ)) → IsCommand c words → option_at (codes "--at") words ≡ None
command_is_not_at _ _ ListChats = refl
command_is_not_at _ _ ListContacts = refl
command_is_not_at _ _ (ShowChat key is) = refl
command_is_not_at _ _ (ShowUpdates id is) = refl
command_is_not_at _ _ (InfoFirst id is) = refl
command_is_not_at _ _ (InfoLast id is) = refl
command_is_not_at _ _ (MakeTrial text number is reads) = refl

-- a value is not `--info`
value_is_not_info : (word : List ℕ) → is_value word ≡ true → bytes_eq word (codes "--info") ≡ false
value_is_not_info word is = decided (bytes_eq word (codes "--info")) refl
  where
    decided : (t : Bool) → bytes_eq word (codes "--info") ≡ t → bytes_eq word (codes "--info") ≡ false
    decided false e = e
    decided true e = (let same : word ≡ codes "--info" = (bytes_eq-Decides word (codes "--info")).0 e in
        let bad : false ≡ true = subst (λ w. is_value w ≡ true) same is in cc)

command_reads : (c : Command) (words : List (List ℕ)) → IsCommand c words → command_of words ≡ Some c
command_reads _ _ ListChats = refl
command_reads _ _ ListContacts = refl
command_reads _ _ (ShowChat key is) = rw is refl
command_reads _ _ (ShowUpdates id is) = rw is refl
command_reads _ _ (InfoFirst id is) = rw is refl
command_reads _ _ (InfoLast id is) = rw (value_is_not_info id is) (rw is refl)
command_reads _ _ (MakeTrial text number is reads) = rw is (rw reads refl)

-- what the options say, as it is written, reads as what they mean
record Reads (me : List ℕ) (at : Option ℕ) (words rest : List (List ℕ)) : Type 0 where
  l : as_written.Line
  is : line_of words ≡ Some l
  me_means : own_address l.me ≡ Some me
  at_means : moment_if_given l.at ≡ Some at
  rest_is : l.rest ≡ rest

options_read : (me : List ℕ) (at : Option ℕ) (words rest : List (List ℕ)) → AreOptions me at words → option_at (codes "--at") rest ≡ None → Reads me at (words ++ rest) rest
options_read _ _ _ rest (Alone words (Me m _ is means)) no_at =
    record { l = line m None rest; is = rw (me_is_not_at m words rest is) (rw (me_reads m words rest is) (rw no_at refl)); me_means = means; at_means = refl; rest_is = refl }
options_read _ _ _ rest (MeFirst at us vs (Me m _ me_is me_means) (At a _ at_is at_means)) no_at =
    record {
      l = line m (Some a) rest;
      is = rw (append_assoc us vs rest) (rw (me_is_not_at m us (vs ++ rest) me_is) (rw (me_reads m us (vs ++ rest) me_is) (rw (at_reads a vs rest at_is) refl)));
      me_means = me_means;
      at_means = rw at_means refl;
      rest_is = refl;
    }
options_read _ _ _ rest (AtFirst at us vs (At a _ at_is at_means) (Me m _ me_is me_means)) no_at =
    record {
      l = line m (Some a) rest;
      is = rw (append_assoc us vs rest) (rw (at_reads a us (vs ++ rest) at_is) (rw (me_reads m vs rest me_is) refl));
      me_means = me_means;
      at_means = rw at_means refl;
      rest_is = refl;
    }

pub written_reads : (r : Request) (words : List (List ℕ)) → IsRequest r words → request words ≡ Some r
written_reads _ _ (Line r us vs options is) =
    let reads = options_read r.me r.at us vs options (command_is_not_at r.command vs is) in
    rw reads.is (rw reads.at_means (rw reads.me_means (rw reads.rest_is (rw (command_reads r.command vs is) refl))))
