-- The work of an actor's call so far, phase by phase.
use Rattle.std.proofs.Common.{◌≡◌, ◌≢◌, ℕ, ◌+◌, ◌-◌, ◌*◌, ◌<◌, ◌≤◌, max, refl, ap, sym, ◌∙◌, subst, arith, inl, inr}
use Rattle.std.proofs.Math.Nat.{mul-le-mul_left, le_refl, max-le}
use Rattle.std.proofs.lemmas.Bool.Decides.{eqb_tells}
use Rattle.seg_core.specs.Segment.{segment_of}
use Rattle.book_core.specs.declared.commands.Command.{Command}
use Rattle.book_core.specs.declared.commands.Command.TheVariants as commands
use Rattle.step_core.specs.declared.machine.phase.Phase.{Phase}
use Rattle.step_core.specs.declared.machine.phase.Phase.TheVariants.{Load, Scout, Put, Exchange, Raise, Begin, Fill, Spoil, Mend, FillMended, Look}
use Rattle.step_core.specs.machine.Bounds.{Exchanges, IsWithin}
use Rattle.step_core.specs.machine.Work.{Count, no_count, segments_touched, growth_steps, steps_allowed, losses_allowed, IsTouchable, MayTouch}
use Rattle.step_core.proofs.atomic_steps.Cases.{IsRaise}

-- ---- Rounds

-- the steps of a number of rounds, each of a number of segments: two at each segment, and one at the end
pub rounds : ℕ → ℕ → ℕ
rounds many segments = many * (2 * segments + 1)

pub rounds_next : (many segments : ℕ) → rounds (many + 1) segments ≡ rounds many segments + (2 * segments + 1)
unfolding rounds
rounds_next many segments = omega arith

pub rounds_none : (segments : ℕ) → rounds 0 segments ≡ 0
unfolding rounds
rounds_none segments = omega arith

pub rounds_more : (many less more : ℕ) → less ≤ more → rounds many less ≤ rounds many more
unfolding rounds
rounds_more many less more below = mul-le-mul_left many (let wider : 2 * less + 1 ≤ 2 * more + 1 = omega arith in wider)

growth_is : (n lost segments : ℕ) → growth_steps n lost segments ≡ 1 + rounds (lost + 1) segments + 2 * n
unfolding rounds
growth_is n lost segments = refl

-- ---- Calls

-- a growth by n places, if its last round wants that number
abbrev pub Grows : Command → ℕ → ℕ → Type 0
Grows (commands.Push value) wanted n = n ≡ 1
Grows (commands.Grow m value) wanted n = n ≡ m
Grows (commands.AtLeast to value) wanted n = n ≡ wanted
Grows (commands.Fail m value at) wanted n = n ≡ m
Grows (commands.Mend place value) wanted n = ⊥
Grows (commands.Read place) wanted n = ⊥
Grows commands.Size wanted n = ⊥

-- a mend, and a read
abbrev pub IsMend : Command → Type 0
IsMend (commands.Push value) = ⊥
IsMend (commands.Grow m value) = ⊥
IsMend (commands.AtLeast to value) = ⊥
IsMend (commands.Fail m value at) = ⊥
IsMend (commands.Mend place value) = Unit {0}
IsMend (commands.Read place) = ⊥
IsMend commands.Size = ⊥

abbrev pub IsRead : Command → Type 0
IsRead (commands.Push value) = ⊥
IsRead (commands.Grow m value) = ⊥
IsRead (commands.AtLeast to value) = ⊥
IsRead (commands.Fail m value at) = ⊥
IsRead (commands.Mend place value) = ⊥
IsRead (commands.Read place) = Unit {0}
IsRead commands.Size = ⊥

-- a new round wants what the growth is by
pub grows_anew : (command : Command) (wanted n : ℕ) → Grows command wanted n → Grows command n n
grows_anew (commands.Push value) wanted n grows = grows
grows_anew (commands.Grow m value) wanted n grows = grows
grows_anew (commands.AtLeast to value) wanted n grows = refl
grows_anew (commands.Fail m value at) wanted n grows = grows
grows_anew (commands.Mend place value) wanted n grows = absurd grows
grows_anew (commands.Read place) wanted n grows = absurd grows
grows_anew commands.Size wanted n grows = absurd grows

-- a growth to at least a size is by what its round wants
pub raise_grows : (command : Command) (to wanted : ℕ) → IsRaise command to → Grows command wanted wanted
raise_grows (commands.Push value) to wanted is = absurd is
raise_grows (commands.Grow m value) to wanted is = absurd is
raise_grows (commands.AtLeast size value) to wanted is = refl
raise_grows (commands.Fail m value at) to wanted is = absurd is
raise_grows (commands.Mend place value) to wanted is = absurd is
raise_grows (commands.Read place) to wanted is = absurd is
raise_grows commands.Size to wanted is = absurd is

pub raise_wanted : (command : Command) (to wanted n : ℕ) → IsRaise command to → Grows command wanted n → n ≡ wanted
raise_wanted (commands.Push value) to wanted n is grows = absurd is
raise_wanted (commands.Grow m value) to wanted n is grows = absurd is
raise_wanted (commands.AtLeast size value) to wanted n is grows = grows
raise_wanted (commands.Fail m value at) to wanted n is grows = absurd is
raise_wanted (commands.Mend place value) to wanted n is grows = absurd is
raise_wanted (commands.Read place) to wanted n is grows = absurd is
raise_wanted commands.Size to wanted n is grows = absurd is

-- where others grow more, no fewer losses are allowed
losses_more : (command : Command) (less more : ℕ) → less ≤ more → losses_allowed command less ≤ losses_allowed command more
losses_more (commands.Push value) less more below = below
losses_more (commands.Grow m value) less more below = below
losses_more (commands.AtLeast to value) less more below = le_refl 0
losses_more (commands.Fail m value at) less more below = below
losses_more (commands.Mend place value) less more below = le_refl 0
losses_more (commands.Read place) less more below = le_refl 0
losses_more commands.Size less more below = le_refl 0

-- and one more to a growth that exchanges
losses_gain : (command : Command) (wanted n less more : ℕ) → Grows command wanted n → Exchanges command → less < more
    → losses_allowed command less < losses_allowed command more
losses_gain (commands.Push value) wanted n less more grows exchanges below = below
losses_gain (commands.Grow m value) wanted n less more grows exchanges below = below
losses_gain (commands.AtLeast to value) wanted n less more grows exchanges below = absurd exchanges
losses_gain (commands.Fail m value at) wanted n less more grows exchanges below = below
losses_gain (commands.Mend place value) wanted n less more grows exchanges below = absurd grows
losses_gain (commands.Read place) wanted n less more grows exchanges below = absurd grows
losses_gain commands.Size wanted n less more grows exchanges below = absurd grows

-- the most steps of a growth
pub growth_within : (command : Command) (wanted n growths lost segments steps : ℕ) → Grows command wanted n
    → lost ≤ losses_allowed command growths → steps ≤ 1 + rounds (lost + 1) segments + 2 * n
    → steps ≤ steps_allowed command wanted lost segments
growth_within (commands.Push value) wanted n growths lost segments steps grows losses most =
    let by : n ≡ 1 = grows in let is = growth_is 1 lost segments in omega arith
growth_within (commands.Grow m value) wanted n growths lost segments steps grows losses most =
    let by : n ≡ m = grows in let is = growth_is m lost segments in omega arith
growth_within (commands.AtLeast to value) wanted n growths lost segments steps grows losses most =
    let by : n ≡ wanted = grows in
    let none : lost ≡ 0 = (let few : lost ≤ 0 = losses in omega arith) in
    let same : rounds (lost + 1) segments ≡ rounds (0 + 1) segments = ap (λ l. rounds (l + 1) segments) none in
    let is = growth_is wanted 0 segments in omega arith
growth_within (commands.Fail m value at) wanted n growths lost segments steps grows losses most =
    let by : n ≡ m = grows in let is = growth_is m lost segments in omega arith
growth_within (commands.Mend place value) wanted n growths lost segments steps grows losses most = absurd grows
growth_within (commands.Read place) wanted n growths lost segments steps grows losses most = absurd grows
growth_within commands.Size wanted n growths lost segments steps grows losses most = absurd grows

pub mend_within : (command : Command) (wanted lost segments steps : ℕ) → IsMend command → steps ≤ 3
    → steps ≤ steps_allowed command wanted lost segments
mend_within (commands.Push value) wanted lost segments steps is few = absurd is
mend_within (commands.Grow m value) wanted lost segments steps is few = absurd is
mend_within (commands.AtLeast to value) wanted lost segments steps is few = absurd is
mend_within (commands.Fail m value at) wanted lost segments steps is few = absurd is
mend_within (commands.Mend place value) wanted lost segments steps is few = few
mend_within (commands.Read place) wanted lost segments steps is few = absurd is
mend_within commands.Size wanted lost segments steps is few = absurd is

pub read_within : (command : Command) (wanted lost segments steps : ℕ) → IsRead command → steps ≤ 2
    → steps ≤ steps_allowed command wanted lost segments
read_within (commands.Push value) wanted lost segments steps is few = absurd is
read_within (commands.Grow m value) wanted lost segments steps is few = absurd is
read_within (commands.AtLeast to value) wanted lost segments steps is few = absurd is
read_within (commands.Fail m value at) wanted lost segments steps is few = absurd is
read_within (commands.Mend place value) wanted lost segments steps is few = absurd is
read_within (commands.Read place) wanted lost segments steps is few = few
read_within commands.Size wanted lost segments steps is few = absurd is

-- every call may take one step
pub one_within : (command : Command) (wanted lost segments steps : ℕ) → steps ≤ 1
    → steps ≤ steps_allowed command wanted lost segments
one_within (commands.Push value) wanted lost segments steps few = let is = growth_is 1 lost segments in omega arith
one_within (commands.Grow m value) wanted lost segments steps few = let is = growth_is m lost segments in omega arith
one_within (commands.AtLeast to value) wanted lost segments steps few = let is = growth_is wanted 0 segments in omega arith
one_within (commands.Fail m value at) wanted lost segments steps few = let is = growth_is m lost segments in omega arith
one_within (commands.Mend place value) wanted lost segments steps few = (let a : steps ≤ 3 = omega arith in a)
one_within (commands.Read place) wanted lost segments steps few = (let a : steps ≤ 2 = omega arith in a)
one_within commands.Size wanted lost segments steps few = few

-- ---- Segments

-- a call that has begun no round has touched none
pub none_touched : (f limit : ℕ) (command : Command) (wanted : ℕ) → MayTouch f limit command wanted 0
none_touched f limit (commands.Push value) wanted = λ most bounds. omega arith
none_touched f limit (commands.Grow m value) wanted = λ most bounds. omega arith
none_touched f limit (commands.AtLeast to value) wanted = λ most bounds. omega arith
none_touched f limit (commands.Fail m value at) wanted = λ most bounds. omega arith
none_touched f limit (commands.Mend place value) wanted = refl
none_touched f limit (commands.Read place) wanted = refl
none_touched f limit commands.Size wanted = refl

-- a round that wants the places of the last one may touch the same number of segments
pub touched_anew : (f limit : ℕ) (command : Command) (wanted n segments : ℕ) → Grows command wanted n
    → MayTouch f limit command wanted segments → MayTouch f limit command n segments
touched_anew f limit (commands.Push value) wanted n segments grows was = was
touched_anew f limit (commands.Grow m value) wanted n segments grows was = was
touched_anew f limit (commands.AtLeast to value) wanted n segments grows was =
    subst (λ x. IsTouchable f limit x segments) (sym grows) was
touched_anew f limit (commands.Fail m value at) wanted n segments grows was = was
touched_anew f limit (commands.Mend place value) wanted n segments grows was = absurd grows
touched_anew f limit (commands.Read place) wanted n segments grows was = absurd grows
touched_anew f limit commands.Size wanted n segments grows was = absurd grows

-- the segments so far, and those of one more run
run_touched : (f limit n by from segments : ℕ) → n ≡ by → from + n ≤ limit → IsTouchable f limit by segments
    → IsTouchable f limit by (max segments (segments_touched f from n))
run_touched f limit n by from segments same room was most bounds =
    max-le (was most bounds)
    (subst (λ x. segments_touched f from x ≤ most) (sym same) (bounds from (omega arith)))

-- a round begins
pub round_touched : (f limit : ℕ) (command : Command) (n from segments : ℕ) → Grows command n n → from + n ≤ limit
    → MayTouch f limit command n segments → MayTouch f limit command n (max segments (segments_touched f from n))
round_touched f limit (commands.Push value) n from segments grows room was = run_touched f limit n 1 from segments grows room was
round_touched f limit (commands.Grow m value) n from segments grows room was = run_touched f limit n m from segments grows room was
round_touched f limit (commands.AtLeast to value) n from segments grows room was = run_touched f limit n n from segments refl room was
round_touched f limit (commands.Fail m value at) n from segments grows room was = run_touched f limit n m from segments grows room was
round_touched f limit (commands.Mend place value) n from segments grows room was = absurd grows
round_touched f limit (commands.Read place) n from segments grows room was = absurd grows
round_touched f limit commands.Size n from segments grows room was = absurd grows

-- ---- Phases

-- what holds of every call that has taken a step, where others grew so often since then
pub record Steady (f limit : ℕ) (command : Command) (count : Count) (growths : ℕ) : Type 0 where
  pub lost : count.tally.lost ≤ losses_allowed command growths
  pub segments : count.tally.segments ≤ 40
  pub touched : MayTouch f limit command count.wanted count.tally.segments
  pub stepped : 0 < count.tally.steps

-- if the size has moved from what the call knows, others have grown one more time than it has lost
abbrev pub MayLose : ℕ → Command → Count → ℕ → ℕ → Type 0
MayLose size command count growths from =
    size ≢ from → Exchanges command → count.tally.lost < losses_allowed command growths

-- in a round, at this segment; so the steps are those of two at each segment before, and this many more
pub record Looks (f limit size : ℕ) (command : Command) (count : Count) (growths from n segment more : ℕ) : Type 0 where
  pub steady : Steady f limit command count growths
  pub grows : Grows command count.wanted n
  pub known : from ≤ size
  pub may_lose : MayLose size command count growths from
  pub low : segment_of f from ≤ segment
  pub high : segment ≤ segment_of f (from + n - 1)
  pub touched : segment_of f (from + n - 1) + 1 ≤ count.tally.segments + segment_of f from
  pub steps : count.tally.steps + 2 * segment_of f from
      ≤ more + rounds count.tally.lost count.tally.segments + 2 * segment

-- at a round's end
pub record Claims (f limit size : ℕ) (command : Command) (count : Count) (growths from n : ℕ) : Type 0 where
  pub steady : Steady f limit command count growths
  pub grows : Grows command count.wanted n
  pub may_lose : MayLose size command count growths from
  pub steps : count.tally.steps ≤ 1 + rounds count.tally.lost count.tally.segments + 2 * count.tally.segments

pub record Raises (f limit size : ℕ) (command : Command) (count : Count) (growths to : ℕ) : Type 0 where
  pub steady : Steady f limit command count growths
  pub raise : IsRaise command to
  pub reach : to ≤ size + count.wanted
  pub steps : count.tally.steps ≤ 1 + rounds count.tally.lost count.tally.segments + 2 * count.tally.segments

-- at a place of the run that the call has won, which has at most the places that its growth is by
pub record Writes (f limit : ℕ) (command : Command) (count : Count) (growths from n place more : ℕ) : Type 0 where
  pub steady : Steady f limit command count growths
  pub most : ℕ
  pub grows : Grows command count.wanted most
  pub few : n ≤ most
  pub steps : count.tally.steps + 2 * from ≤ more + rounds (count.tally.lost + 1) count.tally.segments + 2 * place

-- what a call has taken in this phase
abbrev pub Paces : ℕ → ℕ → ℕ → Command → Count → ℕ → Phase → Type 0
Paces f limit size command count growths Load = count ≡ no_count
Paces f limit size command count growths (Scout from n segment) = Looks f limit size command count growths from n segment 1
Paces f limit size command count growths (Put from n segment) = Looks f limit size command count growths from n segment 2
Paces f limit size command count growths (Exchange from n) = Claims f limit size command count growths from n
Paces f limit size command count growths (Raise to) = Raises f limit size command count growths to
Paces f limit size command count growths (Begin from n place) = Writes f limit command count growths from n place 1
Paces f limit size command count growths (Fill from n place) = Writes f limit command count growths from n place 2
Paces f limit size command count growths (Spoil from n place) = Writes f limit command count growths from n place 2
Paces f limit size command count growths (Mend place) =
    Steady f limit command count growths × IsMend command × (count.tally.steps ≤ 1)
Paces f limit size command count growths (FillMended place) =
    Steady f limit command count growths × IsMend command × (count.tally.steps ≤ 2)
Paces f limit size command count growths (Look place) =
    Steady f limit command count growths × IsRead command × (count.tally.steps ≤ 1)

-- ---- Steps of others

module _ (f limit : ℕ) (command : Command) (count : Count) {size size' growths growths' : ℕ} (larger : size ≤ size') (more : growths ≤ growths') (moves : size' ≢ size → growths < growths') where
  steady_kept : Steady f limit command count growths → Steady f limit command count growths'
  steady_kept steady = record {
    lost = (let a = steady.lost in let b = losses_more command growths growths' more in omega arith);
    segments = steady.segments;
    touched = steady.touched;
    stepped = steady.stepped;
  }

  may_lose_kept : (n from : ℕ) → Grows command count.wanted n → Steady f limit command count growths
      → MayLose size command count growths from → MayLose size' command count growths' from
  may_lose_kept n from grows steady may_lose apart exchanges =
      elim (eqb_tells size' size) [
        | inl same ↦ (
            let before = may_lose (λ is. apart (same.1 ∙ is)) exchanges in
            let b = losses_more command growths growths' more in omega arith)
        | inr moved ↦ (
            let a = steady.lost in
            let b = losses_gain command count.wanted n growths growths' grows exchanges (moves moved.1) in omega arith)
      ]

  looks_kept : (from n segment steps : ℕ) → Looks f limit size command count growths from n segment steps
      → Looks f limit size' command count growths' from n segment steps
  looks_kept from n segment steps was = record {
    steady = steady_kept was.steady;
    grows = was.grows;
    known = (let a = was.known in omega arith);
    may_lose = may_lose_kept n from was.grows was.steady was.may_lose;
    low = was.low;
    high = was.high;
    touched = was.touched;
    steps = was.steps;
  }

  writes_kept : (from n place steps : ℕ) → Writes f limit command count growths from n place steps
      → Writes f limit command count growths' from n place steps
  writes_kept from n place steps was = record {
    steady = steady_kept was.steady;
    most = was.most;
    grows = was.grows;
    few = was.few;
    steps = was.steps;
  }

  -- the call has taken as much where others have grown, and counted it
  pub paces_kept : (phase : Phase) → Paces f limit size command count growths phase
      → Paces f limit size' command count growths' phase
  paces_kept Load was = was
  paces_kept (Scout from n segment) was = looks_kept from n segment 1 was
  paces_kept (Put from n segment) was = looks_kept from n segment 2 was
  paces_kept (Exchange from n) was = record {
    steady = steady_kept was.steady;
    grows = was.grows;
    may_lose = may_lose_kept n from was.grows was.steady was.may_lose;
    steps = was.steps;
  }
  paces_kept (Raise to) was = record {
    steady = steady_kept was.steady;
    raise = was.raise;
    reach = (let a = was.reach in omega arith);
    steps = was.steps;
  }
  paces_kept (Begin from n place) was = writes_kept from n place 1 was
  paces_kept (Fill from n place) was = writes_kept from n place 2 was
  paces_kept (Spoil from n place) was = writes_kept from n place 2 was
  paces_kept (Mend place) (steady, is, few) = (steady_kept steady, is, few)
  paces_kept (FillMended place) (steady, is, few) = (steady_kept steady, is, few)
  paces_kept (Look place) (steady, is, few) = (steady_kept steady, is, few)

-- a call that has taken a step has taken as much where others have grown since
pub paces_since : (f limit size growths growths' : ℕ) (command : Command) (count : Count) (phase : Phase)
    → (0 < count.tally.steps → growths ≤ growths') → Paces f limit size command count growths phase
    → Paces f limit size command count growths' phase
paces_since f limit size growths growths' command count phase more was =
    let kept : Steady f limit command count growths → Paces f limit size command count growths phase → Paces f limit size command count growths' phase =
    λ steady. paces_kept f limit command count (le_refl size) (more steady.stepped) (λ moved. absurd (moved refl)) phase in
    elim phase as (λ p. (Steady f limit command count growths → Paces f limit size command count growths p → Paces f limit size command count growths' p) → Paces f limit size command count growths p → Paces f limit size command count growths' p) [
      | Load ↦ (λ _ w. w)
      | Scout from n segment ↦ (λ by w. by w.steady w)
      | Put from n segment ↦ (λ by w. by w.steady w)
      | Exchange from n ↦ (λ by w. by w.steady w)
      | Raise to ↦ (λ by w. by w.steady w)
      | Begin from n place ↦ (λ by w. by w.steady w)
      | Fill from n place ↦ (λ by w. by w.steady w)
      | Spoil from n place ↦ (λ by w. by w.steady w)
      | Mend place ↦ (λ by w. by w.0 w)
      | FillMended place ↦ (λ by w. by w.0 w)
      | Look place ↦ (λ by w. by w.0 w)
    ]
    kept was

-- ---- What a call may take

-- a call took no more than it may, where others grew so often
pub record Stops (f limit : ℕ) (command : Command) (count : Count) (growths : ℕ) : Type 0 where
  pub lost : count.tally.lost ≤ losses_allowed command growths
  pub steps : count.tally.steps ≤ steps_allowed command count.wanted count.tally.lost count.tally.segments
  pub segments : count.tally.segments ≤ 40
  pub touched : MayTouch f limit command count.wanted count.tally.segments

module _ (f limit growths : ℕ) (command : Command) (count : Count) where
  pub growth_stops : (n : ℕ) → Steady f limit command count growths → Grows command count.wanted n
      → count.tally.steps ≤ 1 + rounds (count.tally.lost + 1) count.tally.segments + 2 * n
      → Stops f limit command count growths
  growth_stops n steady grows few = record {
    lost = steady.lost;
    steps = growth_within command count.wanted n growths count.tally.lost count.tally.segments count.tally.steps grows steady.lost few;
    segments = steady.segments;
    touched = steady.touched;
  }

module _ (f limit size growths : ℕ) (command : Command) (count : Count) where
  looks_stops : (from n segment more : ℕ) → more ≤ 2 → Looks f limit size command count growths from n segment more
      → Stops f limit command count growths
  looks_stops from n segment more little was =
      growth_stops f limit growths command count n was.steady was.grows
      (let a = was.steps in let b = was.low in let c = was.high in let d = was.touched in
      let next = rounds_next count.tally.lost count.tally.segments in omega arith)

  writes_stops : (from n place more : ℕ) → more ≤ 2 → place < from + n → Writes f limit command count growths from n place more
      → Stops f limit command count growths
  writes_stops from n place more little inside was =
      growth_stops f limit growths command count was.most was.steady was.grows (let a = was.steps in let b = was.few in omega arith)

  -- so it is in each phase
  pub paces_stops : (phase : Phase) → IsWithin f limit command phase → Paces f limit size command count growths phase
      → Stops f limit command count growths
  paces_stops Load within is = subst (λ c. Stops f limit command c growths) (sym is) (record {
    lost = omega arith;
    steps = one_within command 0 0 0 0 (omega arith);
    segments = omega arith;
    touched = none_touched f limit command 0;
  })
  paces_stops (Scout from n segment) within was = looks_stops from n segment 1 (omega arith) was
  paces_stops (Put from n segment) within was = looks_stops from n segment 2 (omega arith) was
  paces_stops (Exchange from n) within was =
      growth_stops f limit growths command count n was.steady was.grows
      (let a = was.steps in let next = rounds_next count.tally.lost count.tally.segments in omega arith)
  paces_stops (Raise to) within was =
      growth_stops f limit growths command count count.wanted was.steady (raise_grows command to count.wanted was.raise)
      (let a = was.steps in let next = rounds_next count.tally.lost count.tally.segments in omega arith)
  paces_stops (Begin from n place) (low, inside, room) was = writes_stops from n place 1 (omega arith) inside was
  paces_stops (Fill from n place) (low, inside, room) was = writes_stops from n place 2 (omega arith) inside was
  paces_stops (Spoil from n place) (low, inside, room) was = writes_stops from n place 2 (omega arith) inside was
  paces_stops (Mend place) within (steady, is, few) = record {
    lost = steady.lost;
    steps = mend_within command count.wanted count.tally.lost count.tally.segments count.tally.steps is (omega arith);
    segments = steady.segments;
    touched = steady.touched;
  }
  paces_stops (FillMended place) within (steady, is, few) = record {
    lost = steady.lost;
    steps = mend_within command count.wanted count.tally.lost count.tally.segments count.tally.steps is (omega arith);
    segments = steady.segments;
    touched = steady.touched;
  }
  paces_stops (Look place) within (steady, is, few) = record {
    lost = steady.lost;
    steps = read_within command count.wanted count.tally.lost count.tally.segments count.tally.steps is (omega arith);
    segments = steady.segments;
    touched = steady.touched;
  }
