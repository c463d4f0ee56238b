-- What is drawn for the mails of a trial mailbox.
use Rattle.std.specs.Prelude.{ℕ, ◌+◌, ◌%◌}
use Rattle.rand_core.specs.Pcg32Seed.{pcg32_seed}
use Rattle.rand_pcg.specs.Lcg.{Lcg, advance}
use Rattle.rand_pcg.specs.Pcg.{multiplier_64, pcg32, pcg32_of_seed}
use Rattle.box_maker.specs.declared.draws.Draws.{Draws}
use Rattle.box_maker.specs.Forms.{form_of}

-- the generator that a number seeds
unfoldable pub seeded : ℕ → Lcg
seeded number = pcg32_of_seed (pcg32_seed 16 number)

-- the generator after so many words
unfoldable pub after : ℕ → Lcg → Lcg
after words generator = advance 64 multiplier_64 words generator

-- the word that comes after so many, modulo k
unfoldable pub draw : ℕ → ℕ → Lcg → ℕ
draw words k generator = (pcg32 (after words generator)).0 % k

-- what is drawn for a mail of n, in this order
unfoldable pub drawn : ℕ → Lcg → Draws
drawn n generator = record {
  sender = draw 0 8 generator;
  form = form_of (draw 1 10 generator);
  target = 1 + draw 2 n generator;
  group = draw 3 5 generator;
  day = 1 + draw 4 28 generator;
  hour = draw 5 24 generator;
  minute = draw 6 60 generator;
}
