-- Bytes read until a reader returns the end.
use Rattle.std.proofs.Common.{◌≡◌, ℕ, ◌+◌, ◌<◌, ◌≤◌, ◌⊎◌, inl, inr, ⊎_elim, zero, suc, Bool, false, List, [], ◌∷◌, ◌++◌, length, Option, Some, None, Ok, Err, refl, ap, sym, ◌∙◌, arith, length-append}
use Rattle.std.proofs.lemmas.List.{append-nil}
use Rattle.std.proofs.Math.Dec.{eqb-suc-zero}
use Rattle.std.proofs.KnownBytes.{Consumes-trans, Consumes-kept}
use Rattle.std.specs.Prelude.{IfSome, IsTrue, ◌||◌, if◌then◌else◌}
use Rattle.std.specs.Io.KnownBytes.{Consumes, Keeps, IsAtEnd}
use Rattle.std.specs.IoError.{error_kind}
use Rattle.std.specs.declared.io.Error.{Error}
use Rattle.std.specs.declared.io.ErrorKind.TheVariants.{Interrupted}
use Rattle.text_runs.specs.Failures.{ReadCounts, NoFailedRead, NoReadAfterEnd, CountsRead, is_end}

-- From one reader to another these bytes were read, in `turns` reads. If reads are counted, each gave a byte or one
-- failed, none of them by more than an interruption, and none returned the end.
pub record IsReadSoFar (counted : Bool) (left_old left_now : Option (List ℕ)) (failures_old failures_now : ℕ) (old now : ReadCounts) (turns : ℕ) (bytes : List ℕ) : Type 0 where
  pub read : Consumes left_old left_now bytes
  pub paced : IsTrue counted → (failures_old < failures_now) ⊎ (turns ≤ length bytes)
  pub rising : IsTrue counted → failures_old ≤ failures_now
  pub unbroken : IsTrue counted → NoFailedRead old now
  pub unended : IsTrue counted → old.ended ≡ false → now.ended ≡ false
  pub in_time : IsTrue counted → NoReadAfterEnd old now

-- a read that gave something did not return the end
pub is_end-some : (count : ℕ) (places : List ℕ) → 0 < count → is_end {E = Error} (Ok count) places ≡ false
is_end-some count [] some = refl
is_end-some zero (place ∷ places) some = absurd (omega arith)
is_end-some (suc count) (place ∷ places) some = eqb-suc-zero count

pub still_false : (a b c : Bool) → c ≡ (a || b) → a ≡ false → b ≡ false → c ≡ false
still_false a b c e none also = e ∙ rw (none, also) refl

-- a read before the end is none after it
pub still_early : (a : Bool) (m n : ℕ) → n ≡ (if a then m + 1 else m) → a ≡ false → n ≡ m
still_early a m n e none = e ∙ rw none refl

-- bytes were read, and then a read gave a part
pub IsReadSoFar-part : {counted : Bool} {left_old left_mid left_new : Option (List ℕ)} {f g h : ℕ} {old mid new : ReadCounts} {n : ℕ} {bytes : List ℕ} (part : List ℕ) {count : ℕ} {places : List ℕ}
    → IsReadSoFar counted left_old left_mid f g old mid n bytes → Consumes left_mid left_new part → 0 < length part → 0 < count
    → (IsTrue counted → h ≡ g + 0) → (IsTrue counted → CountsRead mid new (Ok count) places)
    → IsReadSoFar counted left_old left_new f h old new (n + 1) (bytes ++ part)
IsReadSoFar-part {left_old} {left_mid} {left_new} {f} {g} {n} {bytes} part {count} {places} now taken some any same counts = record {
  read = Consumes-trans left_old left_mid left_new bytes part now.read taken;
  paced = λ is.
      let same_now = same is in
      ⊎_elim
      (λ (failed : f < g). inl (omega arith))
      (λ (each : n ≤ length bytes). inr (omega (arith, length-append bytes part)))
      (now.paced is);
  rising = λ is. let same_now = same is in let le = now.rising is in omega arith;
  unbroken = λ is. (counts is).whole ∙ now.unbroken is;
  unended = λ is open_yet. still_false _ _ _ (counts is).ended (now.unended is open_yet) (is_end-some count places any);
  in_time = λ is open_yet. still_early _ _ _ (counts is).reads_after_end (now.unended is open_yet) ∙ now.in_time is open_yet;
}

-- bytes were read, and then a read was interrupted
pub IsReadSoFar-idle : {counted : Bool} {left_old left_mid left_new : Option (List ℕ)} {f g h : ℕ} {old mid new : ReadCounts} {n : ℕ} {bytes : List ℕ} {error : Error} {places : List ℕ}
    → IsReadSoFar counted left_old left_mid f g old mid n bytes → Keeps left_mid left_new → error_kind error ≡ Interrupted
    → (IsTrue counted → h ≡ g + 1) → (IsTrue counted → CountsRead mid new (Err error) places)
    → IsReadSoFar counted left_old left_new f h old new (n + 1) bytes
IsReadSoFar-idle {left_old} {left_mid} {left_new} {bytes} now keeps kind more counts = record {
  read = Consumes-kept left_old left_mid left_new bytes now.read keeps;
  paced = λ is. let more_now = more is in let le = now.rising is in inl (omega arith);
  rising = λ is. let more_now = more is in let le = now.rising is in omega arith;
  unbroken = λ is. (counts is).interrupted kind ∙ now.unbroken is;
  unended = λ is open_yet. still_false _ _ _ (counts is).ended (now.unended is open_yet) refl;
  in_time = λ is open_yet. still_early _ _ _ (counts is).reads_after_end (now.unended is open_yet) ∙ now.in_time is open_yet;
}

-- the last read returned the end, so these are all bytes
pub reads_all : (a b c : Option (List ℕ)) (bytes : List ℕ) → Consumes a b bytes → Consumes b c [] → IsAtEnd c → IfSome a (λ xs. bytes ≡ xs)
reads_all a b c bytes first last end = all_of a c bytes (rw (append-nil bytes) at (Consumes-trans a b c bytes [] first last)) end
  where
    all_of : (a c : Option (List ℕ)) (xs : List ℕ) → Consumes a c xs → IsAtEnd c → IfSome a (λ ys. xs ≡ ys)
    all_of None c xs h i = tt
    all_of (Some zs) None xs h i = absurd h
    all_of (Some zs) (Some us) xs h i = sym (h ∙ ap (λ w. xs ++ w) i ∙ append-nil xs)
