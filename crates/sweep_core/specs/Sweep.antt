-- Sampled schedules of three fixed programs: their items, their plays, and what is counted in all of them.
use Rattle.std.specs.Prelude.{ℕ, ◌+◌, ◌/◌, ◌%◌, ◌^◌, ◌==◌, not, List, [], ◌∷◌, ◌++◌, length, map, codes, decimal}
use Rattle.std.specs.List.{range_with_len, sum_by}
use Rattle.rand_core.specs.Steps.{first_words}
use Rattle.rand_core.specs.Pcg32Seed.{pcg32_seed}
use Rattle.rand_pcg.specs.Lcg.{Lcg}
use Rattle.rand_pcg.specs.Pcg.{pcg32, pcg32_of_seed}
use Rattle.book_core.specs.declared.commands.Command.{Command}
use Rattle.book_core.specs.declared.commands.Command.TheVariants.{Push, Grow, AtLeast, Fail, Read, Size}
use Rattle.book_core.specs.declared.commands.Item.{Item}
use Rattle.step_core.specs.machine.Play.{Play, play_of}
use Rattle.sweep_core.specs.declared.report.SweepReport.{SweepReport}

-- the limit of every schedule
abbrev pub sampled_limit : ℕ
sampled_limit = 16

-- the programs of every schedule: of actor 0, of actor 1, of actor 2
abbrev pub sampled_programs : List (List Command)
sampled_programs =
    (Push 1 ∷ Grow 3 2 ∷ AtLeast 9 3 ∷ [])
    ∷ (Fail 4 5 2 ∷ Read 0 ∷ Push 6 ∷ [])
    ∷ (AtLeast 5 7 ∷ Size ∷ Grow 2 8 ∷ [])
    ∷ []

-- the item of a word: one of the three actors, whose memory is refused once in sixteen
abbrev pub item_of : ℕ → Item
item_of word = record { actor = word % 3; memory = not (word / 3 % 16 == 0) }

-- the generator of a seed
abbrev pub generator_of : ℕ → Lcg
generator_of seed = pcg32_of_seed (pcg32_seed 16 seed)

-- the items of its next words, in order
abbrev pub items_from : ℕ → Lcg → List Item
items_from len generator = map item_of (first_words pcg32 len generator)

-- the schedule of a seed, with `len` items
abbrev pub items_of : ℕ → ℕ → List Item
items_of seed len = items_from len (generator_of seed)

-- its play
unfoldable pub sampled_play : ℕ → ℕ → Play
sampled_play seed len = play_of 1 sampled_limit sampled_programs (items_of seed len)

-- the seed of the schedule of this number: seeds wrap at 2^64
abbrev pub seed_of : ℕ → ℕ → ℕ
seed_of seed number = (seed + number) % 2 ^ 64

-- the events of one schedule after another, counted
abbrev pub all_events : ℕ → ℕ → ℕ → ℕ
all_events seed count len =
    sum_by (λ number. length (sampled_play (seed_of seed number) len).events) (range_with_len 0 count)

-- and the calls that ended
abbrev pub all_ended : ℕ → ℕ → ℕ → ℕ
all_ended seed count len =
    sum_by (λ number. length (sampled_play (seed_of seed number) len).ended) (range_with_len 0 count)

-- how a report is shown
abbrev pub report_text : SweepReport → List ℕ
report_text report =
    codes "schedules " ++ decimal report.schedules ++ codes "\nlegal " ++ decimal report.legal ++ codes "\nevents "
    ++ decimal report.events ++ codes "\nended " ++ decimal report.ended ++ codes "\n"

-- the text of a sweep
abbrev pub sweep_text : ℕ → ℕ → ℕ → List ℕ
sweep_text seed count len =
    report_text (record {
      schedules = count;
      legal = count;
      events = all_events seed count len;
      ended = all_ended seed count len;
    })
