-- The result of a merger of bytes for the byte that was taken from it.
use Rattle.std.proofs.Common.{◌≡◌, ℕ, suc, ◌<◌, ◌≤◌, List, [], ◌∷◌, ◌++◌, length, get_or, Some, None, Ok, Err, Bool, true, false, refl, ap, sym, ◌∙◌, arith, ⊎_elim, append-nil, length-append, lit<, ◌⊎◌}
use Rattle.std.proofs.lemmas.Bool.{cases_lt}
use Rattle.std.proofs.lemmas.Grind.{common_steps}
use Rattle.std.specs.Iterator.{Count, YieldsFirst}
use Rattle.std.specs.Prelude.{Option, Result}
use Rattle.utf_base.specs.declared.errors.Utf8ErrorKind.{Utf8ErrorKind}
use Rattle.utf_base.specs.Code.{utf8}
use Rattle.utf_base.specs.Kinds.{asked, fault_kind, is_continuation, merger_kind, value}
use Rattle.utf_base.specs.Decoded.{decoded_bytes}
use Rattle.utf_base.specs.declared.errors.Utf8ErrorKind.TheVariants.{TooFewBytes}
use Rattle.utf_base.specs.Scalar.{IsScalar}
use Rattle.utf_chars.specs.Padded.{padded}
use Rattle.utf_chars.proofs.PaddedLemmas.{IsPadded_padded, value_padded}
use Rattle.utf_base.proofs.MergerLemmas.{kind_of_front, few-1}
use Rattle.utf_base.proofs.Utf8Code.{utf8-first}
use Rattle.encode_unicode.specs.Mergers.{IsHeldBytes}
use Rattle.encode_unicode.specs.Reading.{Answers, Completes, CompletesAfter, JudgesBytes, ReadsElements}
use Rattle.encode_unicode.proofs.MergerSteps.{reads_none, reads_more, value_of_answer}

-- The bytes that are buffered.

pub held_none : IsHeldBytes []
held_none = record { few = omega arith; continuing = λ k lt. absurd (omega arith) }

pub held_one : (b : ℕ) → IsHeldBytes (b ∷ [])
held_one b = record { few = omega arith; continuing = λ k lt. absurd (omega arith) }

pub held_two : (b c : ℕ) → is_continuation b ≡ true → IsHeldBytes (b ∷ c ∷ [])
held_two b c first = record { few = omega arith; continuing = λ k lt. let zero : k ≡ 0 = omega arith in rw zero first }

pub held_three : (b c d : ℕ) → is_continuation b ≡ true → is_continuation c ≡ true → IsHeldBytes (b ∷ c ∷ d ∷ [])
held_three b c d first second = record {
  few = omega arith;
  continuing = λ k lt.
      ⊎_elim (λ (h : k < 1). let zero : k ≡ 0 = omega arith in rw zero first) (λ (h : 1 ≤ k). let one : k ≡ 1 = omega arith in rw one second) (cases_lt k 1);
}

-- the remaining bytes of the merger
pub held_rest : (old new : List ℕ) (r : Option ℕ) → YieldsFirst (λ (xs : List ℕ). xs) old r new → IsHeldBytes old → IsHeldBytes new
held_rest old new None h held = rw h.1 held_none
held_rest old new (Some x) h held =
    let few = held.few in
    let len : length old ≡ suc (length new) = ap length h in
    record {
      few = omega arith;
      continuing = λ k lt. ap (λ xs. is_continuation (get_or xs (suc k) 0)) (sym h) ∙ held.continuing (suc k) (omega arith);
    }

-- A byte that is a character of its own.

no_continuation : (b s : ℕ) → IsScalar s → b ∷ [] ≡ utf8 s → is_continuation b ≡ false
no_continuation b s scalar e =
    let first : b ≡ get_or (utf8 s) 0 0 = ap (λ xs. get_or xs 0 0) e in
    let range : (b < 0x80) ⊎ (0xC2 ≤ b) = rw first (utf8-first s scalar) in
    grind (arith, common_steps)

pub byte_alone : {S : Type 0} (can_next : S → Type 0) (remaining : S → Count) (steps : S → Option ℕ → S → Type 0) (first : ℕ) (old : List ℕ) (s : S) (e : Bool) (r : Result ℕ Utf8ErrorKind)
    → (e ≡ false → can_next s) → asked first ≤ 1 → (is_continuation first ≡ false → old ≡ []) → JudgesBytes (first ∷ []) r
    → Answers utf8 merger_kind can_next remaining steps first old s e r old s e
byte_alone can_next remaining steps first old s e (Ok c) can few alone j =
    let none : old ≡ [] = alone (no_continuation first c j.0 j.1) in
    record {
      more = [];
      reads = reads_none can;
      settles = λ later ends. (j.0, rw none (ap (λ xs. xs ++ later) j.1));
      few = omega arith;
      clear = none;
    }
byte_alone can_next remaining steps first old s e (Err k) can few alone j = record {
  more = [];
  reads = reads_none can;
  settles = λ later ends. (kind_of_front (first ∷ []) ((old ++ []) ++ later) (lit< tt) few ∙ j, ap (λ xs. first ∷ xs ++ later) (append-nil old));
  few = omega arith;
  clear = tt;
}

-- A result, as it completes the first byte.

completes_ok : {S : Type 0} (can_next : S → Type 0) (remaining : S → Count) (steps : S → Option ℕ → S → Type 0) (first : ℕ) (old bytes : List ℕ) (c : ℕ) (s t : S) (e f : Bool) (new : List ℕ)
    → IsScalar c → bytes ≡ padded 4 (utf8 c) → Answers utf8 merger_kind can_next remaining steps first old s e (Ok c) new t f
    → Completes can_next remaining steps first (record { held = old; ended = e }) s (Ok bytes) (record { held = new; ended = f }) t
completes_ok can_next remaining steps first old bytes c s t e f new scalar same a = record {
  answers = (IsPadded_padded bytes c scalar same, rw (value_padded bytes c scalar same) a);
  held = rw a.clear held_none;
}

pub alone_completes : {S : Type 0} {can_next : S → Type 0} {remaining : S → Count} {steps : S → Option ℕ → S → Type 0} (first : ℕ) {c : ℕ} {old : List ℕ} {s : S} {e : Bool}
    → (e ≡ false → can_next s) → asked first ≤ 1 → (is_continuation first ≡ false → old ≡ []) → JudgesBytes (first ∷ []) (Ok c)
    → Completes can_next remaining steps first (record { held = old; ended = e }) s (Ok (first ∷ 0 ∷ 0 ∷ 0 ∷ [])) (record { held = old; ended = e }) s
unfolding padded
alone_completes {S} {can_next} {remaining} {steps} first {c} {old} {s} {e} can few alone j =
    let same : first ∷ 0 ∷ 0 ∷ 0 ∷ [] ≡ padded 4 (utf8 c) = rw (← j.1) refl in
    completes_ok can_next remaining steps first old (first ∷ 0 ∷ 0 ∷ 0 ∷ []) c s s e e old j.0 same (byte_alone can_next remaining steps first old s e (Ok c) can few alone j)

pub alone_fails : {S : Type 0} {can_next : S → Type 0} {remaining : S → Count} {steps : S → Option ℕ → S → Type 0} {first : ℕ} {k : Utf8ErrorKind} {old : List ℕ} {s : S} {e : Bool}
    → (e ≡ false → can_next s) → asked first ≤ 1 → (is_continuation first ≡ false → old ≡ []) → IsHeldBytes old → JudgesBytes (first ∷ []) (Err k)
    → Completes can_next remaining steps first (record { held = old; ended = e }) s (Err k) (record { held = old; ended = e }) s
alone_fails {S} {can_next} {remaining} {steps} {first} {k} {old} {s} {e} can few alone held j = record { answers = byte_alone can_next remaining steps first old s e (Err k) can few alone j; held = held }

-- The result after the bytes that were read before.

-- a complete code, whose last byte is b
pub code_after : {S : Type 0} {can_next : S → Type 0} {remaining : S → Count} {steps : S → Option ℕ → S → Type 0} (first : ℕ) (before : List ℕ) (b c : ℕ) {bytes : List ℕ} {u t : S} {new : List ℕ} {f : Bool}
    → ReadsElements can_next remaining steps u false (b ∷ []) t false → IsScalar c → first ∷ before ++ b ∷ [] ≡ utf8 c → bytes ≡ padded 4 (utf8 c) → new ≡ [] → f ≡ false
    → CompletesAfter can_next remaining steps first before u (Ok bytes) (record { held = new; ended = f }) t
code_after {S} {can_next} {remaining} {steps} first before b c {bytes} {u} {t} {new} {f} reads scalar code same none going s so_far =
    completes_ok can_next remaining steps first [] bytes c s t false f new scalar same
    (record {
      more = before ++ b ∷ [];
      reads = rw going (reads_more so_far reads);
      settles = λ later ends. (scalar, rw none (ap (λ xs. xs ++ later) code));
      few = rw none (omega arith);
      clear = none;
    })

-- no code, as the byte b shows, which is buffered after the others
pub fault_after : {S : Type 0} {can_next : S → Type 0} {remaining : S → Count} {steps : S → Option ℕ → S → Type 0} (first : ℕ) (before : List ℕ) (b : ℕ) {k : Utf8ErrorKind} {u t : S} {new : List ℕ} {f : Bool}
    → ReadsElements can_next remaining steps u false (b ∷ []) t false → ((later : List ℕ) → merger_kind (first ∷ (before ++ b ∷ []) ++ later) ≡ Some k) → IsHeldBytes (before ++ b ∷ []) → new ≡ before ++ b ∷ [] → f ≡ false
    → CompletesAfter can_next remaining steps first before u (Err k) (record { held = new; ended = f }) t
fault_after first before b {k} {u} {t} {new} reads kind held same going s so_far =
    let len : length new ≡ length (before ++ b ∷ []) = ap length same in
    record {
      answers = record {
        more = before ++ b ∷ [];
        reads = rw going (reads_more so_far reads);
        settles = λ later ends. (kind later, ap (λ xs. first ∷ xs ++ later) (sym same));
        few = omega arith;
        clear = tt;
      };
      held = rw same held;
    }

-- no code, since the source has ended
pub end_after : {S : Type 0} {can_next : S → Type 0} {remaining : S → Count} {steps : S → Option ℕ → S → Type 0} (first : ℕ) (before : List ℕ) {k : Utf8ErrorKind} {u t : S} {new : List ℕ} {f : Bool}
    → ReadsElements can_next remaining steps u false [] t true → merger_kind (first ∷ before) ≡ Some k → IsHeldBytes before → new ≡ before → f ≡ true
    → CompletesAfter can_next remaining steps first before u (Err k) (record { held = new; ended = f }) t
end_after first before {k} {u} {t} {new} reads kind held same mark s so_far =
    let len : length new ≡ length before = ap length same in
    record {
      answers = record {
        more = before ++ [];
        reads = rw mark (reads_more so_far reads);
        settles = λ later ends. (
          rw (ends mark) (ap (λ xs. merger_kind (first ∷ xs)) (append-nil (before ++ []) ∙ append-nil before) ∙ kind),
          ap (λ xs. first ∷ xs ++ later) (append-nil before ∙ sym same),
        );
        few = omega (arith, length-append before []);
        clear = tt;
      };
      held = rw same held;
    }

-- no code, for a first byte after which the source has ended
pub end_at_once : {S : Type 0} {can_next : S → Type 0} {remaining : S → Count} {steps : S → Option ℕ → S → Type 0} {first : ℕ} {old : List ℕ} {s : S} {e : Bool}
    → e ≡ true → 1 < asked first → old ≡ []
    → Completes can_next remaining steps first (record { held = old; ended = e }) s (Err TooFewBytes) (record { held = old; ended = e }) s
end_at_once {S} {can_next} {remaining} {steps} {first} mark asks none = record {
  answers = record {
    more = [];
    reads = reads_none (λ going. absurd (no mark going));
    settles = λ later ends. (rw (none, ends mark) (few-1 first asks), rw none refl);
    few = rw none (omega arith);
    clear = tt;
  };
  held = rw none held_none;
}
  where
    no : {b : Bool} → b ≡ true → b ≡ false → ⊥
    no p q = cc

-- a code in four bytes
pub two_padded : (a b c : ℕ) → a ∷ b ∷ [] ≡ utf8 c → a ∷ b ∷ 0 ∷ 0 ∷ [] ≡ padded 4 (utf8 c)
unfolding padded
two_padded a b c e = rw (← e) refl

pub three_padded : (a b d c : ℕ) → a ∷ b ∷ d ∷ [] ≡ utf8 c → a ∷ b ∷ d ∷ 0 ∷ [] ≡ padded 4 (utf8 c)
unfolding padded
three_padded a b d c e = rw (← e) refl

pub four_padded : (a b d g c : ℕ) → a ∷ b ∷ d ∷ g ∷ [] ≡ utf8 c → a ∷ b ∷ d ∷ g ∷ [] ≡ padded 4 (utf8 c)
unfolding padded
four_padded a b d g c e = rw (← e) refl

-- The character of four bytes that are its code.

pub known_bytes : {S : Type 0} {can_next : S → Type 0} {remaining : S → Count} {steps : S → Option ℕ → S → Type 0} {first : ℕ} {bytes old : List ℕ} {c : ℕ} {s t : S} {e f : Bool} {new : List ℕ}
    → Completes can_next remaining steps first (record { held = old; ended = e }) s (Ok bytes) (record { held = new; ended = f }) t → decoded_bytes bytes ≡ Ok c
    → Answers utf8 merger_kind can_next remaining steps first old s e (Ok c) new t f
unfolding decoded_bytes
known_bytes {S} {can_next} {remaining} {steps} {first} {bytes} {old} {c} h known =
    let is : value bytes ≡ c = value_of_answer (fault_kind bytes) _ c known in
    rw (← is) h.answers.1
