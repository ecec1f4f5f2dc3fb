-- The length of the character at the front of bytes that none begins, and of ASCII.
use Rattle.std.proofs.Common.{◌≡◌, ℕ, ◌+◌, ◌&&◌, nat_lt, add-one, drop, List, Option, Some, None, refl}
use Rattle.utf_base.specs.Code.{utf8}
use Rattle.utf_base.specs.Decoded.{decoded, unless_fault}
use Rattle.utf_base.specs.Front.{NoneBegins}
use Rattle.utf_base.specs.Kinds.{asked_by, fault_kind, value}
use Rattle.utf_base.specs.declared.errors.Utf8ErrorKind.{Utf8ErrorKind}
use Rattle.utf_base.proofs.FrontLemmas.{code_where_no_fault}
use Rattle.surveys.specs.SurveyWindows.{are_shown, front_len, len_of, shown_len, shown_len_of}

pub front_len-none : (w : List ℕ) → NoneBegins utf8 w → front_len w ≡ 0
unfolding front_len decoded
front_len-none w none = by_kind (fault_kind w) refl
  where
    by_kind : (k : Option Utf8ErrorKind) → fault_kind w ≡ k → len_of (unless_fault k (value w, asked_by w)) ≡ 0
    by_kind None e = absurd (none (value w) (code_where_no_fault w e).0)
    by_kind (Some k) e = refl

pub shown_len-none : (w : List ℕ) → NoneBegins utf8 w → shown_len w ≡ 0
unfolding shown_len decoded
shown_len-none w none = by_kind (fault_kind w) refl
  where
    by_kind : (k : Option Utf8ErrorKind) → fault_kind w ≡ k → shown_len_of (unless_fault k (value w, asked_by w)) ≡ 0
    by_kind None e = absurd (none (value w) (code_where_no_fault w e).0)
    by_kind (Some k) e = refl

pub are_shown-more : (n m : ℕ) (w : List ℕ) → n ≡ m + 1 → are_shown n w ≡ (nat_lt 0 (shown_len w) && are_shown m (drop (shown_len w) w))
unfolding are_shown
are_shown-more n m w e = rw (e, add-one) refl
