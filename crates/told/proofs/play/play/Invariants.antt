use Rattle.told.proofs.play.play.Given as goal

-- the ledger that the blank was made for
abbrev pub ghosts-play_counted : goal.ghosts-play_counted
ghosts-play_counted a = record { name = a.blank.name; parts = a.blank.parts }
