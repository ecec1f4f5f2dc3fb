-- A walk over the table determines the kind of the bytes: what each state that is reached implies for them, step by
-- step.
use Rattle.std.proofs.Common.{◌≡◌, ℕ, zero, suc, ◌+◌, ◌-◌, ◌*◌, ◌<◌, ◌≤◌, ◌⊎◌, inl, inr, ⊎_elim, List, [], ◌∷◌, length, get_or, arith, refl, subst, sym, ◌∙◌, ◌==◌, if◌then◌else◌, ap, Some, None, Bool, true, false, lit<}
use Rattle.std.proofs.lemmas.Grind.{common_steps}
use Rattle.std.proofs.lemmas.Bool.{cases_lt}
use Rattle.utf_base.specs.declared.errors.Utf8ErrorKind.TheVariants.{TooFewBytes, InterruptedSequence, OverlongEncoding, Utf16ReservedCodepoint, TooHighCodepoint}
use Rattle.utf_base.specs.declared.table.State.{State}
use Rattle.utf_base.specs.declared.table.State.TheVariants.{Start, OneMore, TwoMore, ThreeMore, AfterE0, AfterEd, AfterF0, AfterF4, TwoMoreOverlong, OneMoreOverlong, OneMoreReserved, TwoMoreTooHigh, OneMoreTooHigh, Done, Unexpected, Never, Interrupted, Overlong, Reserved, TooHigh}
use Rattle.utf_base.specs.Scalar.{IsScalar}
use Rattle.utf_base.specs.Kinds.{fault_kind, merger_kind, asked, asked_by, value, least_value, is_continuation, continues_at, all_continue, breaks_at, is_broken}
use Rattle.utf_base.specs.Table.{class, continued, fault_of, is_first_fault, is_later_fault, is_running, missing, next_state, state_after}
use Rattle.utf_base.proofs.FrontLemmas.{asked-0, asked-1, asked-2, asked-3, asked-4, asked_le, asked-no_continuation, value-1, value-2, value-3, value-4, least_value-below_3, least_value-3, least_value-4}
use Rattle.utf_base.proofs.KindCases.{Sums, kind-empty, kind-continuation, kind-never, kind-overlong, kind-surrogate, kind-too_high, kind-none}
use Rattle.utf_base.proofs.MergerLemmas.{broken_kind, unbroken_kind, enough_kind, few-1, kind_of_few}
use Rattle.utf_base.proofs.TableLemmas.{Begins, begins}

-- the byte at j is a continuation byte
abbrev Continues : List ℕ → ℕ → Type 0
Continues w j = (0x80 ≤ get_or w j 0) × (get_or w j 0 < 0xC0)

-- the bytes before k are continuation bytes, except for the first
abbrev ContinueTo : List ℕ → ℕ → Type 0
ContinueTo w k = (j : ℕ) → 0 < j → j < k → Continues w j

-- The range of the value, by the kind that it leads to.

abbrev IsGood : List ℕ → Type 0
IsGood w = (least_value (asked_by w) ≤ value w) × IsScalar (value w)

abbrev IsOverlong : List ℕ → Type 0
IsOverlong w = value w < least_value (asked_by w)

abbrev IsReserved : List ℕ → Type 0
IsReserved w = (least_value (asked_by w) ≤ value w) × (0xD800 ≤ value w) × (value w < 0xE000)

abbrev IsTooHigh : List ℕ → Type 0
IsTooHigh w = (least_value (asked_by w) ≤ value w) × (0x11_0000 ≤ value w)

-- what a running state implies for the value, or for the previous byte if the next one decides
abbrev Leads : List ℕ → State → Type 0
Leads w AfterE0 = get_or w 0 0 ≡ 0xE0
Leads w AfterEd = get_or w 0 0 ≡ 0xED
Leads w AfterF0 = get_or w 0 0 ≡ 0xF0
Leads w AfterF4 = get_or w 0 0 ≡ 0xF4
Leads w TwoMoreOverlong = ContinueTo w (asked_by w) → IsOverlong w
Leads w OneMoreOverlong = ContinueTo w (asked_by w) → IsOverlong w
Leads w OneMoreReserved = ContinueTo w (asked_by w) → IsReserved w
Leads w TwoMoreTooHigh = ContinueTo w (asked_by w) → IsTooHigh w
Leads w OneMoreTooHigh = ContinueTo w (asked_by w) → IsTooHigh w
Leads w _ = ContinueTo w (asked_by w) → IsGood w

-- k bytes, the first of which begins a code, led to a running state
pub record Runs (w : List ℕ) (k : ℕ) (state : State) : Type 0 where
  pub some : 0 < k
  pub asks : asked_by w ≡ k + missing state
  pub before : ContinueTo w k
  pub leads : Leads w state

-- k bytes led to the state; an end state determines the kind
abbrev pub Reached : List ℕ → ℕ → State → Type 0
Reached w k Start = k ≡ 0
Reached w k Done = merger_kind w ≡ None
Reached w k Unexpected = merger_kind w ≡ fault_of Unexpected
Reached w k Never = merger_kind w ≡ fault_of Never
Reached w k Interrupted = merger_kind w ≡ fault_of Interrupted
Reached w k Overlong = merger_kind w ≡ fault_of Overlong
Reached w k Reserved = merger_kind w ≡ fault_of Reserved
Reached w k TooHigh = merger_kind w ≡ fault_of TooHigh
Reached w k running = Runs w k running

-- A byte that does not continue breaks the code, whatever follows.

breaks : (w : List ℕ) (k : ℕ) → 0 < k → k < asked_by w → k < length w → is_continuation (get_or w k 0) ≡ false → is_broken w ≡ true
breaks w zero some asks there e = absurd (omega arith)
breaks w (suc zero) some asks there e = grind (arith, common_steps)
breaks w (suc (suc zero)) some asks there e = grind (arith, common_steps)
breaks w (suc (suc (suc zero))) some asks there e = grind (arith, common_steps)
breaks w (suc (suc (suc (suc k)))) some asks there e = absurd (omega (arith, asked_le (get_or w 0 0)))

interrupted : (w : List ℕ) (k : ℕ) (state : State) → Runs w k state → 0 < missing state → k < length w → (get_or w k 0 < 0x80) ⊎ (0xC0 ≤ get_or w k 0)
    → merger_kind w ≡ Some InterruptedSequence
interrupted w k state r more there out =
    broken_kind w (breaks w k r.some (omega arith) there (⊎_elim (λ (h : get_or w k 0 < 0x80). grind (arith, common_steps)) (λ (h : 0xC0 ≤ get_or w k 0). grind (arith, common_steps)) out))

-- One more byte that continues.

continued_to : (w : List ℕ) (k : ℕ) → ContinueTo w k → Continues w k → ContinueTo w (suc k)
continued_to w k before here j some lt = ⊎_elim (λ (h : j < k). before j some h) (λ (h : k ≤ j). let e : j ≡ k = omega arith in rw e here) (cases_lt j k)

runs_on : (w : List ℕ) (k : ℕ) (state next : State) → Runs w k state → Continues w k → missing state ≡ 1 + missing next → Leads w next → Runs w (suc k) next
runs_on w k state next r here less leads =
    let asks = r.asks in
    record { some = omega arith; asks = omega arith; before = continued_to w k r.before here; leads = leads }

-- The last byte: all bytes that the first asks for are there, and the value decides.

follows : (w : List ℕ) (k : ℕ) → ContinueTo w (asked_by w) → 0 < k → continues_at w k ≡ true
follows w k all some =
    ⊎_elim (λ (h : k < asked_by w). let c = all k some h in grind (arith, common_steps)) (λ (h : asked_by w ≤ k). grind (arith, common_steps)) (cases_lt k (asked_by w))

all_follow : (w : List ℕ) → ContinueTo w (asked_by w) → all_continue w ≡ true
all_follow w all = rw (follows w 1 all (lit< tt), follows w 2 all (lit< tt), follows w 3 all (lit< tt)) refl

sums : (w : List ℕ) → 0 < asked_by w → asked_by w ≤ length w → ContinueTo w (asked_by w) → Sums w (asked_by w) (value w)
sums w some enough all = record {
  asks = record { some = omega arith; first = asked-no_continuation (get_or w 0 0) some; asks = refl; positive = some };
  enough = enough;
  follow = all_follow w all;
  sum = refl;
}

-- what a last byte that continues completes
record Ends (w : List ℕ) : Type 0 where
  all : ContinueTo w (asked_by w)
  enough : asked_by w ≤ length w
  sums : Sums w (asked_by w) (value w)

ends : (w : List ℕ) (k : ℕ) (state : State) → Runs w k state → Continues w k → missing state ≡ 1 → k < length w → Ends w
ends w k state r here last there =
    let e : suc k ≡ asked_by w = omega arith in
    let all : ContinueTo w (asked_by w) = rw (← e) (continued_to w k r.before here) in
    record { all = all; enough = omega arith; sums = sums w (omega arith) (omega arith) all }

done : (w : List ℕ) → Ends w → IsGood w → merger_kind w ≡ None
done w e good = enough_kind w e.enough ∙ kind-none w _ _ e.sums good.0 good.1

overlong : (w : List ℕ) → Ends w → IsOverlong w → merger_kind w ≡ Some OverlongEncoding
overlong w e h = enough_kind w e.enough ∙ kind-overlong w _ _ e.sums h

reserved : (w : List ℕ) → Ends w → IsReserved w → merger_kind w ≡ Some Utf16ReservedCodepoint
reserved w e h = enough_kind w e.enough ∙ kind-surrogate w _ _ e.sums h.0 h.1 h.2

too_high : (w : List ℕ) → Ends w → IsTooHigh w → merger_kind w ≡ Some TooHighCodepoint
too_high w e h = enough_kind w e.enough ∙ kind-too_high w _ _ e.sums h.0 h.1

-- The range of a byte, and the state after it, if it is not the first.

outside : (one two three : State) (b : ℕ) → (b < 0x80) ⊎ (0xC0 ≤ b) → continued one two three (class b) ≡ Interrupted
unfolding class
outside one two three b (inl h) = grind (arith, common_steps)
outside one two three b (inr h) = grind (arith, common_steps)

class-1 : (b : ℕ) → 0x80 ≤ b → b < 0x90 → class b ≡ 1
unfolding class
class-1 b l h = grind (arith, common_steps)

class-2 : (b : ℕ) → 0x90 ≤ b → b < 0xA0 → class b ≡ 2
unfolding class
class-2 b l h = grind (arith, common_steps)

class-3 : (b : ℕ) → 0xA0 ≤ b → b < 0xC0 → class b ≡ 3
unfolding class
class-3 b l h = grind (arith, common_steps)

by_continuation_byte : (P : State → Type 0) (one two three : State) (b : ℕ) → ((b < 0x80) ⊎ (0xC0 ≤ b) → P Interrupted) → (0x80 ≤ b → b < 0x90 → P one)
    → (0x90 ≤ b → b < 0xA0 → P two) → (0xA0 ≤ b → b < 0xC0 → P three) → P (continued one two three (class b))
by_continuation_byte P one two three b out low middle high =
    ⊎_elim (λ (h : b < 0x80). rw (outside one two three b (inl h)) (out (inl h)))
    (λ (l0 : 0x80 ≤ b).
    ⊎_elim (λ (h : b < 0x90). rw (class-1 b l0 h) (low l0 h))
    (λ (l1 : 0x90 ≤ b).
    ⊎_elim (λ (h : b < 0xA0). rw (class-2 b l1 h) (middle l1 h))
    (λ (l2 : 0xA0 ≤ b).
    ⊎_elim (λ (h : b < 0xC0). rw (class-3 b l2 h) (high l2 h))
    (λ (l3 : 0xC0 ≤ b). rw (outside one two three b (inr l3)) (out (inr l3)))
    (cases_lt b 0xC0)) (cases_lt b 0xA0)) (cases_lt b 0x90)) (cases_lt b 0x80)

-- the state after a byte, if bytes below 0xa0 lead to one state and the others to another, or if 0x90
-- separates them
at_a0 : (P : State → Type 0) (low high : State) (b : ℕ) → ((b < 0x80) ⊎ (0xC0 ≤ b) → P Interrupted) → ((0x80 ≤ b) × (b < 0xC0) → b < 0xA0 → P low)
    → ((0x80 ≤ b) × (b < 0xC0) → 0xA0 ≤ b → P high) → P (continued low low high (class b))
at_a0 P low high b out below above =
    by_continuation_byte P low low high b out (λ l h. below (omega arith, omega arith) (omega arith)) (λ l h. below (omega arith, omega arith) h) (λ l h. above (omega arith, omega arith) l)

at_90 : (P : State → Type 0) (low high : State) (b : ℕ) → ((b < 0x80) ⊎ (0xC0 ≤ b) → P Interrupted) → ((0x80 ≤ b) × (b < 0xC0) → b < 0x90 → P low)
    → ((0x80 ≤ b) × (b < 0xC0) → 0x90 ≤ b → P high) → P (continued low high high (class b))
at_90 P low high b out below above =
    by_continuation_byte P low high high b out (λ l h. below (omega arith, omega arith) h) (λ l h. above (omega arith, omega arith) l) (λ l h. above (omega arith, omega arith) (omega arith))

-- The first byte.

two_are_good : (w : List ℕ) → 0xC2 ≤ get_or w 0 0 → get_or w 0 0 < 0xE0 → ContinueTo w (asked_by w) → IsGood w
two_are_good w low high all =
    let n : asked_by w ≡ 2 = asked-2 (get_or w 0 0) low high in
    let sum = value-2 w n in
    let c = all 1 (lit< tt) (omega arith) in
    let least = least_value-below_3 (asked_by w) (omega arith) in
    (omega arith, record { below = omega arith; no_surrogate = λ h. absurd (omega arith) })

-- what three continuation bytes imply, and four: their value, by the second byte, which is at k, and the least value
-- of that length
record OfThree (w : List ℕ) (k : ℕ) : Type 0 where
  sum : value w ≡ (get_or w 0 0 - 0xE0) * 4096 + (get_or w k 0 - 0x80) * 64 + (get_or w 2 0 - 0x80)
  second : Continues w k
  third : Continues w 2
  least : least_value (asked_by w) ≡ 0x800

of_three : (w : List ℕ) (k : ℕ) → k ≡ 1 → 0xE0 ≤ get_or w 0 0 → get_or w 0 0 < 0xF0 → ContinueTo w (asked_by w) → OfThree w k
of_three w k e low high all =
    let n : asked_by w ≡ 3 = asked-3 (get_or w 0 0) low high in
    rw e (record { sum = value-3 w n; second = all 1 (lit< tt) (omega arith); third = all 2 (lit< tt) (omega arith); least = ap least_value n ∙ least_value-3 })

record OfFour (w : List ℕ) (k : ℕ) : Type 0 where
  sum : value w ≡ (get_or w 0 0 - 0xF0) * 262144 + (get_or w k 0 - 0x80) * 4096 + (get_or w 2 0 - 0x80) * 64 + (get_or w 3 0 - 0x80)
  second : Continues w k
  third : Continues w 2
  fourth : Continues w 3
  least : least_value (asked_by w) ≡ 0x1_0000

of_four : (w : List ℕ) (k : ℕ) → k ≡ 1 → 0xF0 ≤ get_or w 0 0 → get_or w 0 0 < 0xF5 → ContinueTo w (asked_by w) → OfFour w k
of_four w k e low high all =
    let n : asked_by w ≡ 4 = asked-4 (get_or w 0 0) low high in
    rw e
    (record {
      sum = value-4 w n;
      second = all 1 (lit< tt) (omega arith);
      third = all 2 (lit< tt) (omega arith);
      fourth = all 3 (lit< tt) (omega arith);
      least = ap least_value n ∙ least_value-4;
    })

three_are_good : (w : List ℕ) → 0xE0 < get_or w 0 0 → get_or w 0 0 < 0xF0 → (get_or w 0 0 ≡ 0xED → ⊥) → ContinueTo w (asked_by w) → IsGood w
three_are_good w low high other all =
    let t = of_three w 1 refl (omega arith) high all in
    (omega arith, record { below = omega arith; no_surrogate = λ h. ⊎_elim (λ (g : get_or w 0 0 < 0xEE). absurd (other (omega arith))) (λ (g : 0xEE ≤ get_or w 0 0). omega arith) (cases_lt (get_or w 0 0) 0xEE) })

four_are_good : (w : List ℕ) → 0xF0 < get_or w 0 0 → get_or w 0 0 < 0xF4 → ContinueTo w (asked_by w) → IsGood w
four_are_good w low high all =
    let t = of_four w 1 refl (omega arith) (omega arith) all in
    (omega arith, record { below = omega arith; no_surrogate = λ h. omega arith })

-- a first byte that begins a code runs on
runs-1 : (w : List ℕ) (state : State) → asked_by w ≡ 1 + missing state → Leads w state → Runs w 1 state
runs-1 w state asks leads = record { some = lit< tt; asks = asks; before = λ j some lt. absurd (omega arith); leads = leads }

first : (w : List ℕ) (state : State) → 0 < length w → Begins (get_or w 0 0) state → Reached w 1 state
first w OneMore some h = runs-1 w OneMore (asked-2 _ h.0 h.1) (two_are_good w h.0 h.1)
first w TwoMore some h = runs-1 w TwoMore (asked-3 _ (omega arith) h.1) (three_are_good w h.0 h.1 h.2)
first w ThreeMore some h = runs-1 w ThreeMore (asked-4 _ (omega arith) (omega arith)) (four_are_good w h.0 h.1)
first w AfterE0 some h = runs-1 w AfterE0 (asked-3 _ (omega arith) (omega arith)) h
first w AfterEd some h = runs-1 w AfterEd (asked-3 _ (omega arith) (omega arith)) h
first w AfterF0 some h = runs-1 w AfterF0 (asked-4 _ (omega arith) (omega arith)) h
first w AfterF4 some h = runs-1 w AfterF4 (asked-4 _ (omega arith) (omega arith)) h
first w Done some h =
    let n : asked_by w ≡ 1 = asked-1 _ h in
    let sum = value-1 w n in
    let least = least_value-below_3 (asked_by w) (omega arith) in
    let all : ContinueTo w (asked_by w) = λ j some lt. absurd (omega arith) in
    done w
    (record { all = all; enough = omega arith; sums = sums w (omega arith) (omega arith) all })
    (omega arith, record { below = omega arith; no_surrogate = λ g. absurd (omega arith) })
first w Unexpected some h = let n : asked_by w ≡ 0 = asked-0 _ (inl (omega arith, omega arith)) in enough_kind w (omega arith) ∙ kind-continuation w some h.0 h.1
first w Never some (inl h) =
    let n : asked_by w ≡ 0 = asked-0 _ (inl (omega arith, h.1)) in
    enough_kind w (omega arith) ∙ kind-never w some n (grind (arith, common_steps))
first w Never some (inr h) =
    let n : asked_by w ≡ 0 = asked-0 _ (inr h) in
    enough_kind w (omega arith) ∙ kind-never w some n (grind (arith, common_steps))
first w _ some h = absurd h

-- One more byte, in any state. From these, all bytes that continue lead to one state.

by_one_way : (w : List ℕ) (k : ℕ) (state next : State) → Runs w k state → 0 < missing state → k < length w → (Continues w k → Reached w (suc k) next)
    → Reached w (suc k) (continued next next next (class (get_or w k 0)))
by_one_way w k state next r more there on =
    at_a0 (Reached w (suc k)) next next _ (interrupted w k state r more there) (λ c h. on c) (λ c h. on c)

next : (w : List ℕ) (k : ℕ) (state : State) → k < length w → Reached w k state → Reached w (suc k) (next_state state (class (get_or w k 0)))
unfolding next_state
next w k Start there r = let e : k ≡ 0 = r in rw e (first w (next_state Start (class (get_or w 0 0))) (omega arith) (begins (get_or w 0 0)))
next w k OneMore there r = by_one_way w k OneMore Done r (lit< tt) there (λ c. let e = ends w k OneMore r c refl there in done w e (r.leads e.all))
next w k TwoMore there r = by_one_way w k TwoMore OneMore r (lit< tt) there (λ c. runs_on w k TwoMore OneMore r c refl r.leads)
next w k ThreeMore there r = by_one_way w k ThreeMore TwoMore r (lit< tt) there (λ c. runs_on w k ThreeMore TwoMore r c refl r.leads)
next w k AfterE0 there r =
    let lead = r.leads in
    let known = of_three w k (omega (arith, r.asks, asked-3 (get_or w 0 0) (omega arith) (omega arith))) (omega arith) (omega arith) in
    at_a0 (Reached w (suc k)) OneMoreOverlong OneMore _ (interrupted w k AfterE0 r (lit< tt) there)
    (λ c h. runs_on w k AfterE0 OneMoreOverlong r c refl (λ all. let t = known all in omega arith))
    (λ c l. runs_on w k AfterE0 OneMore r c refl (λ all. let t = known all in (omega arith, record { below = omega arith; no_surrogate = λ g. absurd (omega arith) })))
next w k AfterEd there r =
    let lead = r.leads in
    let known = of_three w k (omega (arith, r.asks, asked-3 (get_or w 0 0) (omega arith) (omega arith))) (omega arith) (omega arith) in
    at_a0 (Reached w (suc k)) OneMore OneMoreReserved _ (interrupted w k AfterEd r (lit< tt) there)
    (λ c h. runs_on w k AfterEd OneMore r c refl (λ all. let t = known all in (omega arith, record { below = omega arith; no_surrogate = λ g. absurd (omega arith) })))
    (λ c l. runs_on w k AfterEd OneMoreReserved r c refl (λ all. let t = known all in (omega arith, omega arith, omega arith)))
next w k AfterF0 there r =
    let lead = r.leads in
    let known = of_four w k (omega (arith, r.asks, asked-4 (get_or w 0 0) (omega arith) (omega arith))) (omega arith) (omega arith) in
    at_90 (Reached w (suc k)) TwoMoreOverlong TwoMore _ (interrupted w k AfterF0 r (lit< tt) there)
    (λ c h. runs_on w k AfterF0 TwoMoreOverlong r c refl (λ all. let t = known all in omega arith))
    (λ c l. runs_on w k AfterF0 TwoMore r c refl (λ all. let t = known all in (omega arith, record { below = omega arith; no_surrogate = λ g. omega arith })))
next w k AfterF4 there r =
    let lead = r.leads in
    let known = of_four w k (omega (arith, r.asks, asked-4 (get_or w 0 0) (omega arith) (omega arith))) (omega arith) (omega arith) in
    at_90 (Reached w (suc k)) TwoMore TwoMoreTooHigh _ (interrupted w k AfterF4 r (lit< tt) there)
    (λ c h. runs_on w k AfterF4 TwoMore r c refl (λ all. let t = known all in (omega arith, record { below = omega arith; no_surrogate = λ g. omega arith })))
    (λ c l. runs_on w k AfterF4 TwoMoreTooHigh r c refl (λ all. let t = known all in (omega arith, omega arith)))
next w k TwoMoreOverlong there r = by_one_way w k TwoMoreOverlong OneMoreOverlong r (lit< tt) there (λ c. runs_on w k TwoMoreOverlong OneMoreOverlong r c refl r.leads)
next w k OneMoreOverlong there r = by_one_way w k OneMoreOverlong Overlong r (lit< tt) there (λ c. let e = ends w k OneMoreOverlong r c refl there in overlong w e (r.leads e.all))
next w k OneMoreReserved there r = by_one_way w k OneMoreReserved Reserved r (lit< tt) there (λ c. let e = ends w k OneMoreReserved r c refl there in reserved w e (r.leads e.all))
next w k TwoMoreTooHigh there r = by_one_way w k TwoMoreTooHigh OneMoreTooHigh r (lit< tt) there (λ c. runs_on w k TwoMoreTooHigh OneMoreTooHigh r c refl r.leads)
next w k OneMoreTooHigh there r = by_one_way w k OneMoreTooHigh TooHigh r (lit< tt) there (λ c. let e = ends w k OneMoreTooHigh r c refl there in too_high w e (r.leads e.all))
next w k _ there r = r

pub reached : (w : List ℕ) (k : ℕ) → k ≤ length w → Reached w k (state_after w k)
reached w zero le = refl
reached w (suc k) le = next w k (state_after w k) (omega arith) (reached w k (omega arith))

-- The first end state that is reached determines the kind.

end_tells : (w : List ℕ) (k : ℕ) (state : State) → is_running state ≡ false → Reached w k state → merger_kind w ≡ fault_of state
end_tells w k Start e r = cc
end_tells w k _ e r = cc

pub kind_at_end : (w : List ℕ) (k : ℕ) → k ≤ length w → is_running (state_after w k) ≡ false → merger_kind w ≡ fault_of (state_after w k)
kind_at_end w k le e = end_tells w k (state_after w k) e (reached w k le)

-- All bytes together determine the kind in any state: a running one asks for more.

unbroken : (w : List ℕ) → ContinueTo w (length w) → is_broken w ≡ false
unbroken w all = rw (no_break w 1 (lit< tt) all, no_break w 2 (lit< tt) all, no_break w 3 (lit< tt) all) refl
  where
    no_break : (w : List ℕ) (k : ℕ) → 0 < k → ContinueTo w (length w) → breaks_at w k ≡ false
    no_break w k some all =
        ⊎_elim (λ (h : k < length w). let c = all k some h in grind (arith, common_steps)) (λ (h : length w ≤ k). grind (arith, common_steps)) (cases_lt k (length w))

too_few : (w : List ℕ) (state : State) → 0 < missing state → Runs w (length w) state → merger_kind w ≡ Some TooFewBytes
too_few w state more r = let asks = r.asks in kind_of_few w r.some (omega arith) (unbroken w r.before)

nothing : (w : List ℕ) → length w ≡ 0 → merger_kind w ≡ Some TooFewBytes
nothing w e = unbroken_kind w (unbroken w (λ j some lt. absurd (omega arith))) ∙ kind-empty w e

all_tell : (w : List ℕ) (state : State) → Reached w (length w) state → merger_kind w ≡ fault_of state
all_tell w Start r = nothing w r
all_tell w Done r = r
all_tell w Unexpected r = r
all_tell w Never r = r
all_tell w Interrupted r = r
all_tell w Overlong r = r
all_tell w Reserved r = r
all_tell w TooHigh r = r
all_tell w _ r = too_few w _ (lit< tt) r

pub kind_of_all : (w : List ℕ) → merger_kind w ≡ fault_of (state_after w (length w))
kind_of_all w = all_tell w _ (reached w (length w) (omega arith))

-- the forward kind, if all bytes are there that the first asks for
pub fault_at_end : (w : List ℕ) (k : ℕ) (state : State) → k ≤ length w → asked_by w ≤ length w → state_after w k ≡ state → is_running state ≡ false → fault_kind w ≡ fault_of state
fault_at_end w k state le enough e end = sym (enough_kind w enough) ∙ kind_at_end w k le (ap is_running e ∙ end) ∙ ap fault_of e

-- A running state after some bytes asks for more of them.
pub runs_after : (w : List ℕ) (k : ℕ) (state : State) → 0 < k → is_running state ≡ true → Reached w k state → Runs w k state × (0 < missing state) × (fault_of state ≡ Some TooFewBytes)
runs_after w k Start some e r = let none : k ≡ 0 = r in absurd (omega arith)
runs_after w k Done some e r = cc
runs_after w k Unexpected some e r = cc
runs_after w k Never some e r = cc
runs_after w k Interrupted some e r = cc
runs_after w k Overlong some e r = cc
runs_after w k Reserved some e r = cc
runs_after w k TooHigh some e r = cc
runs_after w k _ some e r = (r, lit< tt, refl)

-- The first byte asks for more than the bytes that led to a running state.
pub asks_on : (w : List ℕ) (k : ℕ) (state : State) → 0 < k → k ≤ length w → state ≡ state_after w k → is_running state ≡ true → (k < asked_by w) × (asked_by w ≡ k + missing state)
asks_on w k state some le at runs =
    let r = runs_after w k (state_after w k) some (sym (ap is_running at) ∙ runs) (reached w k le) in
    let asks = r.0.asks in
    let more = r.1 in
    let same = ap missing at in
    (omega arith, omega arith)

-- An end is no lack of bytes, so a first byte that leads to one asks for no other.
no_lack : (end : State) → is_running end ≡ false → fault_of end ≡ Some TooFewBytes → ⊥
no_lack Start stops lacks = cc
no_lack _ stops lacks = cc

pub asks_no_other : (b : ℕ) (end : State) → end ≡ state_after (b ∷ []) 1 → is_running end ≡ false → asked b ≤ 1
asks_no_other b end at stops =
    let kind = kind_at_end (b ∷ []) 1 (lit< tt) (sym (ap is_running at) ∙ stops) in
    let none : 1 < asked b → ⊥ = λ many. no_lack end stops (ap fault_of at ∙ sym kind ∙ few-1 b many) in
    grind arith

-- A step that the code made, as one of the walk.
pub stepped : (w : List ℕ) (k c : ℕ) (state next : State) → next ≡ next_state state c → c ≡ class (get_or w k 0) → state ≡ state_after w k → next ≡ state_after w (suc k)
stepped w k c state next h e f = h ∙ ap (next_state state) e ∙ ap (λ (x : State). next_state x (class (get_or w k 0))) f

-- The invariant of a walk: a state that asks for a byte is running, and each byte that continues leaves one less to
-- ask for.

pub asks_runs : (state : State) → 0 < missing state → is_running state ≡ true
asks_runs Start more = absurd (omega arith)
asks_runs _ more = grind arith

pub missing_le : (state : State) → missing state ≤ 3
missing_le Start = omega arith
missing_le _ = omega arith

by_continued : (P : State → Type 0) (one two three : State) (c : ℕ) → P one → P two → P three → P Interrupted → P (continued one two three c)
by_continued P one two three c p q r out = choose P (c == 1) p (choose P (c == 2) q (choose P (c == 3) r out))
  where
    choose : (P : State → Type 0) (b : Bool) {x y : State} → P x → P y → P (if b then x else y)
    choose P true p q = p
    choose P false p q = q

abbrev FaultsLater : State → Type 0
FaultsLater next = is_running next ≡ false → (next ≡ Done → ⊥) → is_later_fault next ≡ true

abbrev IsLess : State → State → Type 0
IsLess state next = (next ≡ Interrupted → ⊥) → missing state ≡ 1 + missing next

pub one_less : (state : State) (c : ℕ) → 0 < missing state → (next_state state c ≡ Interrupted → ⊥) → missing state ≡ 1 + missing (next_state state c)
unfolding next_state
one_less Start c more = absurd (omega arith)
one_less Done c more = absurd (omega arith)
one_less Unexpected c more = absurd (omega arith)
one_less Never c more = absurd (omega arith)
one_less Interrupted c more = absurd (omega arith)
one_less Overlong c more = absurd (omega arith)
one_less Reserved c more = absurd (omega arith)
one_less TooHigh c more = absurd (omega arith)
one_less state c more = by_continued (IsLess state) _ _ _ c (λ n. refl) (λ n. refl) (λ n. refl) (λ n. absurd (n refl))

-- the last byte that a state asks for leads to an end
pub last_ends : (state : State) (c : ℕ) → missing state ≡ 1 → is_running (next_state state c) ≡ false
unfolding next_state
last_ends OneMore c e = by_continued (λ next. is_running next ≡ false) Done Done Done c refl refl refl refl
last_ends OneMoreOverlong c e = by_continued (λ next. is_running next ≡ false) Overlong Overlong Overlong c refl refl refl refl
last_ends OneMoreReserved c e = by_continued (λ next. is_running next ≡ false) Reserved Reserved Reserved c refl refl refl refl
last_ends OneMoreTooHigh c e = by_continued (λ next. is_running next ≡ false) TooHigh TooHigh TooHigh c refl refl refl refl
last_ends _ c e = absurd (omega arith)

-- an end state after a running state, other than that of a code, is a fault that the first byte does not
-- decide
pub faults_later : (state : State) (c : ℕ) → 0 < missing state → is_running (next_state state c) ≡ false → (next_state state c ≡ Done → ⊥) → is_later_fault (next_state state c) ≡ true
unfolding next_state
faults_later Start c more = absurd (omega arith)
faults_later Done c more = absurd (omega arith)
faults_later Unexpected c more = absurd (omega arith)
faults_later Never c more = absurd (omega arith)
faults_later Interrupted c more = absurd (omega arith)
faults_later Overlong c more = absurd (omega arith)
faults_later Reserved c more = absurd (omega arith)
faults_later TooHigh c more = absurd (omega arith)
faults_later OneMore c more = by_continued FaultsLater Done Done Done c (λ stops other. absurd (other refl)) (λ stops other. absurd (other refl)) (λ stops other. absurd (other refl)) (λ stops other. refl)
faults_later OneMoreOverlong c more = by_continued FaultsLater Overlong Overlong Overlong c (λ stops other. refl) (λ stops other. refl) (λ stops other. refl) (λ stops other. refl)
faults_later OneMoreReserved c more = by_continued FaultsLater Reserved Reserved Reserved c (λ stops other. refl) (λ stops other. refl) (λ stops other. refl) (λ stops other. refl)
faults_later OneMoreTooHigh c more = by_continued FaultsLater TooHigh TooHigh TooHigh c (λ stops other. refl) (λ stops other. refl) (λ stops other. refl) (λ stops other. refl)
faults_later state c more = by_continued FaultsLater _ _ _ c (λ stops other. cc) (λ stops other. cc) (λ stops other. cc) (λ stops other. refl)

-- a byte that leads to the end of a code is the last that the first asks for
pub completes : (w : List ℕ) (k : ℕ) (state : State) → 0 < k → k ≤ length w → state ≡ state_after w k → is_running state ≡ true → state_after w (suc k) ≡ Done → asked_by w ≡ suc k
completes w k state some le at runs done =
    let r = runs_after w k (state_after w k) some (sym (ap is_running at) ∙ runs) (reached w k le) in
    let less = one_less (state_after w k) (class (get_or w k 0)) r.1 (λ i. no (sym done ∙ i)) in
    let none = ap missing done in
    let asks = r.0.asks in
    omega arith
  where
    no : Done ≡ Interrupted → ⊥
    no e = cc

-- The state after a first byte of two, three and four.

pub first-2 : (b : ℕ) → 0xC2 ≤ b → b < 0xE0 → next_state Start (class b) ≡ OneMore
unfolding class next_state
first-2 b low high = grind (arith, common_steps)

begun_asks : {b : ℕ} (state : State) → 0xE0 ≤ b → b < 0xF5 → Begins b state → 1 + missing state ≡ asked b
begun_asks TwoMore low high h = sym (asked-3 _ low h.1)
begun_asks AfterE0 low high h = sym (asked-3 _ low (omega arith))
begun_asks AfterEd low high h = sym (asked-3 _ low (omega arith))
begun_asks Never low high (inl h) = absurd (omega arith)
begun_asks Never low high (inr h) = absurd (omega arith)
begun_asks ThreeMore low high h = sym (asked-4 _ (omega arith) high)
begun_asks AfterF0 low high h = sym (asked-4 _ (omega arith) high)
begun_asks AfterF4 low high h = sym (asked-4 _ (omega arith) high)
begun_asks _ low high h = absurd (omega arith)

pub first-3 : (b : ℕ) → 0xE0 ≤ b → b < 0xF0 → missing (next_state Start (class b)) ≡ 2
first-3 b low high = let asks = begun_asks (next_state Start (class b)) low (omega arith) (begins b) in omega (arith, asked-3 b low high)

pub first-4 : (b : ℕ) → 0xF0 ≤ b → b < 0xF5 → missing (next_state Start (class b)) ≡ 3
first-4 b low high = let asks = begun_asks (next_state Start (class b)) (omega arith) high (begins b) in omega (arith, asked-4 b low high)

-- a first byte that leads to an end state other than that of a code begins no code
pub faults_first : (b : ℕ) (end : State) → end ≡ next_state Start (class b) → is_running end ≡ false → (end ≡ Done → ⊥) → is_first_fault end ≡ true
faults_first b end e stops other = by_begins b end (subst (λ (s : State). Begins b s) (sym e) (begins b)) stops other
  where
    by_begins : (b : ℕ) (end : State) → Begins b end → is_running end ≡ false → (end ≡ Done → ⊥) → is_first_fault end ≡ true
    by_begins b Unexpected h stops other = refl
    by_begins b Never h stops other = refl
    by_begins b Done h stops other = absurd (other refl)
    by_begins b Interrupted h stops other = absurd h
    by_begins b Overlong h stops other = absurd h
    by_begins b Reserved h stops other = absurd h
    by_begins b TooHigh h stops other = absurd h
    by_begins b _ h stops other = cc
