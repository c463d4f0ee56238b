use Rattle.chat_program.proofs.main.Given as goal

-- the ledger that the blank was made for
abbrev pub ghosts-start_apart : goal.ghosts-start_apart
ghosts-start_apart a = record { name = a.blank.name; parts = a.blank.parts }
