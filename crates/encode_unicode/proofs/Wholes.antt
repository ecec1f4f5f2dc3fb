-- Some bytes are one whole code, or they are none, as a walk over the table of states decides.
use Rattle.std.proofs.Common.{◌≡◌, ℕ, suc, ◌⊎◌, inl, inr, get_or, ◌<◌, ◌≤◌, List, length, arith, refl, ap, sym, ◌∙◌, None, Ok, false, append-nil}
use Rattle.std.proofs.lemmas.Grind.{common_steps}
use Rattle.utf_base.specs.declared.table.State.{State}
use Rattle.utf_base.specs.declared.table.State.TheVariants.{Done, Interrupted}
use Rattle.utf_base.specs.Back.{IsWholeCode}
use Rattle.utf_base.specs.Code.{utf8}
use Rattle.utf_base.specs.Decoded.{decoded_bytes}
use Rattle.utf_base.specs.Front.{BeginsWith}
use Rattle.utf_base.specs.Kinds.{asked, asked_by, fault_kind, value}
use Rattle.utf_base.specs.Scalar.{IsScalar}
use Rattle.utf_base.specs.Table.{fault_of, is_running, state_after}
use Rattle.utf_chars.specs.Padded.{padded}
use Rattle.utf_chars.proofs.PaddedLemmas.{value_padded}
use Rattle.utf_base.proofs.FrontLemmas.{code_where_no_fault, decodes_from_stands, no_fault_where_code}
use Rattle.utf_base.proofs.MergerLemmas.{merger_none_where_code}
use Rattle.utf_base.proofs.Standing.{stands_alone}
use Rattle.utf_base.proofs.TableSteps.{kind_at_end, last_ends}
use Rattle.utf_chars.proofs.Walked.{Next, Walk, running, walk_at}
use Rattle.encode_unicode.proofs.MergerSteps.{value_of_answer}
use Rattle.encode_unicode.proofs.TableWalks.{code_after_walk}

-- the bytes are the code of their value
abbrev pub IsCode : List ℕ → Type 0
IsCode w = IsScalar (value w) × (w ≡ utf8 (value w))

-- only the end of a code has no fault
done_alone : (state : State) → fault_of state ≡ None → state ≡ Done
done_alone Done e = refl
done_alone _ e = cc

-- bytes are no code if some of them led to another end state
pub none_by_end : (w : List ℕ) (n : ℕ) (end : State) → n ≤ length w → state_after w n ≡ end → is_running end ≡ false → (end ≡ Done → ⊥) → IsWholeCode w None
none_by_end w n end le at stops other s h =
    let kind = kind_at_end w n le (ap is_running at ∙ stops) in
    other (done_alone end (sym (ap fault_of at) ∙ sym kind ∙ merger_none_where_code w s h.0))

-- bytes are no code if the next byte breaks them, or the last one leads to another end state
pub none_by_break : (w : List ℕ) (k n c : ℕ) (state next : State) → k < length w → Walk w k state n → Next w k state c next → next ≡ Interrupted → IsWholeCode w None
none_by_break w k n c state next lt h x broken = none_by_end w (suc k) Interrupted (omega arith) (walk_at w k n c state next h x ∙ broken) refl (λ e. cc)

pub none_by_last : (w : List ℕ) (k c : ℕ) (state next : State) → length w ≡ suc k → Walk w k state 1 → Next w k state c next → (next ≡ Done → ⊥) → IsWholeCode w None
none_by_last w k c state next len h x other = none_by_end w (suc k) next (omega arith) (walk_at w k 1 c state next h x) (ap is_running x.step ∙ last_ends state c h.asks) other

-- bytes are a code if the last one leads to its end state
pub code_by_walk : (w : List ℕ) (k c : ℕ) (state next : State) → length w ≡ suc k → 0 < k → Walk w k state 1 → Next w k state c next → next ≡ Done → IsCode w
code_by_walk w k c state next len some h x done = let code = code_after_walk w k len some (ap is_running h.at ∙ running w k 0 state h) (walk_at w k 1 c state next h x ∙ done) in (code.0, code.1)

-- bytes are no code if the first asks for another number of them
none_by_first : (w : List ℕ) (n : ℕ) → length w ≡ n → (asked_by w ≡ n → ⊥) → IsWholeCode w None
none_by_first w n len other s h =
    let code = code_where_no_fault w (no_fault_where_code w s h.0) in
    other (code.1 ∙ ap (λ c. length (utf8 c)) (decodes_from_stands w s h.0).1 ∙ sym h.1 ∙ len)

pub none_outside : (w : List ℕ) (n low high : ℕ) → length w ≡ n → ((b : ℕ) → asked b ≡ n → (low ≤ b) × (b < high)) → (get_or w 0 0 < low) ⊎ ((low ≤ get_or w 0 0) × (high ≤ get_or w 0 0)) → IsWholeCode w None
none_outside w n low high len range (inl below) = none_by_first w n len (λ e. omega (arith, (range (get_or w 0 0) e).0))
none_outside w n low high len range (inr above) = none_by_first w n len (λ e. omega (arith, (range (get_or w 0 0) e).1, above.1))

-- the range of a first byte, by how many bytes it asks for
pub range_of_two : (b : ℕ) → asked b ≡ 2 → (0xC2 ≤ b) × (b < 0xE0)
unfolding asked
range_of_two b e = grind (arith, common_steps)

pub range_of_three : (b : ℕ) → asked b ≡ 3 → (0xE0 ≤ b) × (b < 0xF0)
unfolding asked
range_of_three b e = grind (arith, common_steps)

pub range_of_four : (b : ℕ) → asked b ≡ 4 → (0xF0 ≤ b) × (b < 0xF5)
unfolding asked
range_of_four b e = grind (arith, common_steps)

-- a code of four bytes in an array of four
pub all_padded : (bytes : List ℕ) (s : ℕ) → length bytes ≡ 4 → bytes ≡ utf8 s → bytes ≡ padded 4 (utf8 s)
unfolding padded
all_padded bytes s len e = let four : length (utf8 s) ≡ 4 = sym (ap length e) ∙ len in e ∙ rw four (sym (append-nil (utf8 s)))

-- bytes that are a code are so in an array of four too
pub whole_in_four : (w bytes : List ℕ) (s : ℕ) → IsScalar (value w) → w ≡ utf8 (value w) → bytes ≡ padded 4 (utf8 (value w)) → decoded_bytes bytes ≡ Ok s → BeginsWith utf8 w s (length w)
unfolding decoded_bytes
whole_in_four w bytes s scalar code padding known =
    let is : value w ≡ s = sym (value_padded bytes (value w) scalar padding) ∙ value_of_answer (fault_kind bytes) _ s known in
    rw (← is) (stands_alone utf8 w (value w, scalar, code), ap length code)
