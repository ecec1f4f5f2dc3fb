-- The byte order mark at the front of some bytes (the Unicode standard, section 23.8).
use Rattle.std.specs.Prelude.{◌≡◌, ℕ, List, length, take}
use Rattle.recoding.specs.declared.form.Form.{Form}
use Rattle.recoding.specs.Recoded.{written}

-- the mark in an encoding: the code of U+FEFF
abbrev pub mark_of : Form → List ℕ
mark_of form = written form 0xFEFF

-- the bytes begin with the mark of that encoding, whose length is n
pub record BeginsWithMark (form : Form) (bytes : List ℕ) (n : ℕ) : Type 0 where
  pub len : n ≡ length (mark_of form)
  pub front : take n bytes ≡ mark_of form

-- the bytes begin with the mark of no encoding
abbrev pub HasNoMark : List ℕ → Type 0
HasNoMark bytes = (form : Form) → ¬ (take (length (mark_of form)) bytes ≡ mark_of form)
