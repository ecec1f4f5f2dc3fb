-- The grammar of RFC 3629, and the code of a scalar by division and remainder, are the same bytes.
use Rattle.std.proofs.Common.{◌≡◌, ℕ, ◌+◌, ◌-◌, ◌*◌, ◌<◌, ◌≤◌, ◌⊎◌, inl, inr, ⊎_elim, List, [], ◌∷◌, refl, ap, sym, ◌∙◌, arith}
use Rattle.std.proofs.lemmas.Bool.{cases_lt}
use Rattle.std.proofs.lemmas.List.Elements.{All-cons, All-nil}
use Rattle.std.specs.Prelude.{All, Contains}
use Rattle.utf_base.specs.Scalar.{IsScalar}
use Rattle.utf_base.specs.Code.{utf8}
use Rattle.utf_base.specs.Grammar.{Range, AreOf, range, only, utf8_tail, IsUtf8Char}
use Rattle.utf_base.specs.GrammarLaws.{CodesAreTheGrammar, CodesAreTheTable, IsRowOfCodes}
use Rattle.utf_base.specs.WellFormedBytes.{TableRow, ascii, two_bytes, after_e0, three_bytes, after_ed, after_surrogates, after_f0, four_bytes, after_f4, table_rows}
use Rattle.utf_base.proofs.FrontLemmas.{code_of_2, code_of_3, code_of_4}
use Rattle.utf_base.proofs.Utf8Code.{utf8-1, utf8-2, utf8-3, utf8-4}

-- Bytes of a list of ranges are as many as the ranges, one of each.

record One (r : Range) (w : List ℕ) : Type 0 where
  pub b : ℕ
  pub is : w ≡ b ∷ []
  pub b1 : r.first ≤ b
  pub b2 : b ≤ r.last

one : (r : Range) (w : List ℕ) → AreOf (r ∷ []) w → One r w
one r [] h = absurd h
one r (b ∷ w) h = record { b = b; is = ap (λ xs. b ∷ xs) h.2; b1 = h.0; b2 = h.1 }

record Two (r s : Range) (w : List ℕ) : Type 0 where
  pub b : ℕ
  pub rest : List ℕ
  pub is : w ≡ b ∷ rest
  pub b1 : r.first ≤ b
  pub b2 : b ≤ r.last
  pub later : One s rest

two : (r s : Range) (w : List ℕ) → AreOf (r ∷ s ∷ []) w → Two r s w
two r s [] h = absurd h
two r s (b ∷ w) h = record { b = b; rest = w; is = refl; b1 = h.0; b2 = h.1; later = one s w h.2 }

record Three (r s t : Range) (w : List ℕ) : Type 0 where
  pub b : ℕ
  pub rest : List ℕ
  pub is : w ≡ b ∷ rest
  pub b1 : r.first ≤ b
  pub b2 : b ≤ r.last
  pub later : Two s t rest

three : (r s t : Range) (w : List ℕ) → AreOf (r ∷ s ∷ t ∷ []) w → Three r s t w
three r s t [] h = absurd h
three r s t (b ∷ w) h = record { b = b; rest = w; is = refl; b1 = h.0; b2 = h.1; later = two s t w h.2 }

record Four (r s t u : Range) (w : List ℕ) : Type 0 where
  pub b : ℕ
  pub rest : List ℕ
  pub is : w ≡ b ∷ rest
  pub b1 : r.first ≤ b
  pub b2 : b ≤ r.last
  pub later : Three s t u rest

four : (r s t u : Range) (w : List ℕ) → AreOf (r ∷ s ∷ t ∷ u ∷ []) w → Four r s t u w
four r s t u [] h = absurd h
four r s t u (b ∷ w) h = record { b = b; rest = w; is = refl; b1 = h.0; b2 = h.1; later = three s t u w h.2 }

-- From the bytes of a row to its scalar.

record IsOfRow (row : TableRow) (w : List ℕ) : Type 0 where
  pub scalar : ℕ
  pub is_scalar : IsScalar scalar
  pub low : row.first ≤ scalar
  pub high : scalar ≤ row.last
  pub equal : w ≡ utf8 scalar

of_ascii : (w : List ℕ) → AreOf ascii.bytes w → IsOfRow ascii w
of_ascii w h =
    let x = one (range 0x00 0x7F) w h in
    record {
      scalar = x.b;
      is_scalar = record { below = omega (arith, x.b2); no_surrogate = λ g. absurd (omega (arith, x.b2)) };
      low = omega arith;
      high = x.b2;
      equal = x.is ∙ sym (utf8-1 x.b (omega (arith, x.b2)));
    }

of_two_bytes : (w : List ℕ) → AreOf two_bytes.bytes w → IsOfRow two_bytes w
of_two_bytes w h =
    let x = two (range 0xC2 0xDF) utf8_tail w h in
    let y = x.later in
    let v = (x.b - 0xC0) * 64 + (y.b - 0x80) in
    let code = code_of_2 v x.b y.b refl x.b1 (omega (arith, x.b2)) y.b1 (omega (arith, y.b2)) in
    record {
      scalar = v;
      is_scalar = record { below = omega (arith, x.b2, y.b2); no_surrogate = λ g. absurd (omega (arith, x.b2, y.b2)) };
      low = omega (arith, x.b1);
      high = omega (arith, x.b2, y.b2);
      equal = x.is ∙ ap (λ xs. x.b ∷ xs) y.is ∙ sym code;
    }

-- three bytes whose value lies in a row that has no surrogate
of_three : (row : TableRow) (r s : Range) (w : List ℕ) (x : Three r s utf8_tail w) → 0xE0 ≤ x.b → x.b < 0xF0 → 0x80 ≤ x.later.b → x.later.b < 0xC0
    → ((v : ℕ) → v ≡ (x.b - 0xE0) * 4096 + (x.later.b - 0x80) * 64 + (x.later.later.b - 0x80) → (row.first ≤ v) × (v ≤ row.last))
    → 0x800 ≤ row.first → (row.last < 0xD800) ⊎ (0xE000 ≤ row.first) → row.last < 0x11_0000 → IsOfRow row w
of_three row r s w x low high low2 high2 bounds least apart below =
    let y = x.later in
    let z = y.later in
    let v = (x.b - 0xE0) * 4096 + (y.b - 0x80) * 64 + (z.b - 0x80) in
    let b = bounds v refl in
    let code = code_of_3 v x.b y.b z.b refl (omega (arith, b.0)) low high low2 high2 z.b1 (omega (arith, z.b2)) in
    record {
      scalar = v;
      is_scalar = record { below = omega (arith, b.1); no_surrogate = λ g. ⊎_elim (λ (a : row.last < 0xD800). absurd (omega (arith, b.1))) (λ (a : 0xE000 ≤ row.first). omega (arith, b.0)) apart };
      low = b.0;
      high = b.1;
      equal = x.is ∙ ap (λ xs. x.b ∷ xs) (y.is ∙ ap (λ xs. y.b ∷ xs) z.is) ∙ sym code;
    }

of_after_e0 : (w : List ℕ) → AreOf after_e0.bytes w → IsOfRow after_e0 w
of_after_e0 w h =
    let x = three (only 0xE0) (range 0xA0 0xBF) utf8_tail w h in
    of_three after_e0 (only 0xE0) (range 0xA0 0xBF) w x (omega (arith, x.b1)) (omega (arith, x.b2)) (omega (arith, x.later.b1)) (omega (arith, x.later.b2))
    (λ v e. (omega (arith, x.b1, x.later.b1), omega (arith, x.b2, x.later.b2, x.later.later.b2))) (omega arith) (inl (omega arith)) (omega arith)

of_three_bytes : (w : List ℕ) → AreOf three_bytes.bytes w → IsOfRow three_bytes w
of_three_bytes w h =
    let x = three (range 0xE1 0xEC) (utf8_tail) utf8_tail w h in
    of_three three_bytes (range 0xE1 0xEC) (utf8_tail) w x (omega (arith, x.b1)) (omega (arith, x.b2)) (omega (arith, x.later.b1)) (omega (arith, x.later.b2))
    (λ v e. (omega (arith, x.b1, x.later.b1), omega (arith, x.b2, x.later.b2, x.later.later.b2))) (omega arith) (inl (omega arith)) (omega arith)

of_after_ed : (w : List ℕ) → AreOf after_ed.bytes w → IsOfRow after_ed w
of_after_ed w h =
    let x = three (only 0xED) (range 0x80 0x9F) utf8_tail w h in
    of_three after_ed (only 0xED) (range 0x80 0x9F) w x (omega (arith, x.b1)) (omega (arith, x.b2)) (omega (arith, x.later.b1)) (omega (arith, x.later.b2))
    (λ v e. (omega (arith, x.b1, x.later.b1), omega (arith, x.b2, x.later.b2, x.later.later.b2))) (omega arith) (inl (omega arith)) (omega arith)

of_after_surrogates : (w : List ℕ) → AreOf after_surrogates.bytes w → IsOfRow after_surrogates w
of_after_surrogates w h =
    let x = three (range 0xEE 0xEF) (utf8_tail) utf8_tail w h in
    of_three after_surrogates (range 0xEE 0xEF) (utf8_tail) w x (omega (arith, x.b1)) (omega (arith, x.b2)) (omega (arith, x.later.b1)) (omega (arith, x.later.b2))
    (λ v e. (omega (arith, x.b1, x.later.b1), omega (arith, x.b2, x.later.b2, x.later.later.b2))) (omega arith) (inr (omega arith)) (omega arith)

-- four bytes whose value lies in a row
of_four : (row : TableRow) (r s : Range) (w : List ℕ) (x : Four r s utf8_tail utf8_tail w) → 0xF0 ≤ x.b → x.b < 0xF5 → 0x80 ≤ x.later.b → x.later.b < 0xC0
    → ((v : ℕ) → v ≡ (x.b - 0xF0) * 262144 + (x.later.b - 0x80) * 4096 + (x.later.later.b - 0x80) * 64 + (x.later.later.later.b - 0x80) → (row.first ≤ v) × (v ≤ row.last))
    → 0x1_0000 ≤ row.first → row.last < 0x11_0000 → IsOfRow row w
of_four row r s w x low high low2 high2 bounds least below =
    let y = x.later in
    let z = y.later in
    let t = z.later in
    let v = (x.b - 0xF0) * 262144 + (y.b - 0x80) * 4096 + (z.b - 0x80) * 64 + (t.b - 0x80) in
    let b = bounds v refl in
    let code = code_of_4 v x.b y.b z.b t.b refl (omega (arith, b.0)) (omega (arith, b.1)) low high low2 high2 z.b1 (omega (arith, z.b2)) t.b1 (omega (arith, t.b2)) in
    record {
      scalar = v;
      is_scalar = record { below = omega (arith, b.1); no_surrogate = λ g. omega (arith, b.0) };
      low = b.0;
      high = b.1;
      equal = x.is ∙ ap (λ xs. x.b ∷ xs) (y.is ∙ ap (λ xs. y.b ∷ xs) (z.is ∙ ap (λ xs. z.b ∷ xs) t.is)) ∙ sym code;
    }

of_after_f0 : (w : List ℕ) → AreOf after_f0.bytes w → IsOfRow after_f0 w
of_after_f0 w h =
    let x = four (only 0xF0) (range 0x90 0xBF) utf8_tail utf8_tail w h in
    of_four after_f0 (only 0xF0) (range 0x90 0xBF) w x (omega (arith, x.b1)) (omega (arith, x.b2)) (omega (arith, x.later.b1)) (omega (arith, x.later.b2))
    (λ v e. (omega (arith, x.b1, x.later.b1), omega (arith, x.b2, x.later.b2, x.later.later.b2, x.later.later.later.b2))) (omega arith) (omega arith)

of_four_bytes : (w : List ℕ) → AreOf four_bytes.bytes w → IsOfRow four_bytes w
of_four_bytes w h =
    let x = four (range 0xF1 0xF3) (utf8_tail) utf8_tail utf8_tail w h in
    of_four four_bytes (range 0xF1 0xF3) (utf8_tail) w x (omega (arith, x.b1)) (omega (arith, x.b2)) (omega (arith, x.later.b1)) (omega (arith, x.later.b2))
    (λ v e. (omega (arith, x.b1, x.later.b1), omega (arith, x.b2, x.later.b2, x.later.later.b2, x.later.later.later.b2))) (omega arith) (omega arith)

of_after_f4 : (w : List ℕ) → AreOf after_f4.bytes w → IsOfRow after_f4 w
of_after_f4 w h =
    let x = four (only 0xF4) (range 0x80 0x8F) utf8_tail utf8_tail w h in
    of_four after_f4 (only 0xF4) (range 0x80 0x8F) w x (omega (arith, x.b1)) (omega (arith, x.b2)) (omega (arith, x.later.b1)) (omega (arith, x.later.b2))
    (λ v e. (omega (arith, x.b1, x.later.b1), omega (arith, x.b2, x.later.b2, x.later.later.b2, x.later.later.later.b2))) (omega arith) (omega arith)

-- From a scalar of a row to its bytes.

to_ascii : (s : ℕ) → ascii.first ≤ s → s ≤ ascii.last → AreOf ascii.bytes (utf8 s)
to_ascii s low high = rw (utf8-1 s (omega arith)) (omega arith, omega arith, refl)

to_two_bytes : (s : ℕ) → two_bytes.first ≤ s → s ≤ two_bytes.last → AreOf two_bytes.bytes (utf8 s)
to_two_bytes s low high = rw (utf8-2 s low (omega arith)) (omega arith, omega arith, (omega arith, omega arith, refl))

to_after_e0 : (s : ℕ) → after_e0.first ≤ s → s ≤ after_e0.last → AreOf after_e0.bytes (utf8 s)
to_after_e0 s low high = rw (utf8-3 s (omega arith) (omega arith)) (omega arith, omega arith, (omega arith, omega arith, (omega arith, omega arith, refl)))

to_three_bytes : (s : ℕ) → three_bytes.first ≤ s → s ≤ three_bytes.last → AreOf three_bytes.bytes (utf8 s)
to_three_bytes s low high = rw (utf8-3 s (omega arith) (omega arith)) (omega arith, omega arith, (omega arith, omega arith, (omega arith, omega arith, refl)))

to_after_ed : (s : ℕ) → after_ed.first ≤ s → s ≤ after_ed.last → AreOf after_ed.bytes (utf8 s)
to_after_ed s low high = rw (utf8-3 s (omega arith) (omega arith)) (omega arith, omega arith, (omega arith, omega arith, (omega arith, omega arith, refl)))

to_after_surrogates : (s : ℕ) → after_surrogates.first ≤ s → s ≤ after_surrogates.last → AreOf after_surrogates.bytes (utf8 s)
to_after_surrogates s low high = rw (utf8-3 s (omega arith) (omega arith)) (omega arith, omega arith, (omega arith, omega arith, (omega arith, omega arith, refl)))

to_after_f0 : (s : ℕ) → after_f0.first ≤ s → s ≤ after_f0.last → AreOf after_f0.bytes (utf8 s)
to_after_f0 s low high = rw (utf8-4 s (omega arith)) (omega arith, omega arith, (omega arith, omega arith, (omega arith, omega arith, (omega arith, omega arith, refl))))

to_four_bytes : (s : ℕ) → four_bytes.first ≤ s → s ≤ four_bytes.last → AreOf four_bytes.bytes (utf8 s)
to_four_bytes s low high = rw (utf8-4 s (omega arith)) (omega arith, omega arith, (omega arith, omega arith, (omega arith, omega arith, (omega arith, omega arith, refl))))

to_after_f4 : (s : ℕ) → after_f4.first ≤ s → s ≤ after_f4.last → AreOf after_f4.bytes (utf8 s)
to_after_f4 s low high = rw (utf8-4 s (omega arith)) (omega arith, omega arith, (omega arith, omega arith, (omega arith, omega arith, (omega arith, omega arith, refl))))

row_of_codes : (row : TableRow) → ((s : ℕ) → row.first ≤ s → s ≤ row.last → AreOf row.bytes (utf8 s)) → ((w : List ℕ) → AreOf row.bytes w → IsOfRow row w) → IsRowOfCodes row
row_of_codes row to of = record {
  code = to;
  bytes = λ w h. let x = of w h in (x.scalar, x.is_scalar, x.low, x.high, x.equal);
}

each_row : All IsRowOfCodes table_rows
each_row =
    All-cons IsRowOfCodes ascii (two_bytes ∷ after_e0 ∷ three_bytes ∷ after_ed ∷ after_surrogates ∷ after_f0 ∷ four_bytes ∷ after_f4 ∷ []) (row_of_codes ascii to_ascii of_ascii)
    (All-cons IsRowOfCodes two_bytes (after_e0 ∷ three_bytes ∷ after_ed ∷ after_surrogates ∷ after_f0 ∷ four_bytes ∷ after_f4 ∷ []) (row_of_codes two_bytes to_two_bytes of_two_bytes)
    (All-cons IsRowOfCodes after_e0 (three_bytes ∷ after_ed ∷ after_surrogates ∷ after_f0 ∷ four_bytes ∷ after_f4 ∷ []) (row_of_codes after_e0 to_after_e0 of_after_e0)
    (All-cons IsRowOfCodes three_bytes (after_ed ∷ after_surrogates ∷ after_f0 ∷ four_bytes ∷ after_f4 ∷ []) (row_of_codes three_bytes to_three_bytes of_three_bytes)
    (All-cons IsRowOfCodes after_ed (after_surrogates ∷ after_f0 ∷ four_bytes ∷ after_f4 ∷ []) (row_of_codes after_ed to_after_ed of_after_ed)
    (All-cons IsRowOfCodes after_surrogates (after_f0 ∷ four_bytes ∷ after_f4 ∷ []) (row_of_codes after_surrogates to_after_surrogates of_after_surrogates)
    (All-cons IsRowOfCodes after_f0 (four_bytes ∷ after_f4 ∷ []) (row_of_codes after_f0 to_after_f0 of_after_f0)
    (All-cons IsRowOfCodes four_bytes (after_f4 ∷ []) (row_of_codes four_bytes to_four_bytes of_four_bytes)
    (All-cons IsRowOfCodes after_f4 ([]) (row_of_codes after_f4 to_after_f4 of_after_f4)
    (All-nil IsRowOfCodes)))))))))

-- the row of a scalar, and its number
record InRow (s : ℕ) : Type 0 where
  pub row : TableRow
  pub among : Contains table_rows row
  pub low : row.first ≤ s
  pub high : s ≤ row.last

row_of_scalar : (s : ℕ) → IsScalar s → InRow s
row_of_scalar s scalar =
    let below = scalar.below in
    ⊎_elim (λ (h : s < 0x80). record { row = ascii; among = (0, omega arith, refl); low = omega arith; high = omega arith }) (λ (l0 : 0x80 ≤ s). ⊎_elim (λ (h : s < 0x800). record { row = two_bytes; among = (1, omega arith, refl); low = omega arith; high = omega arith }) (λ (l1 : 0x800 ≤ s). ⊎_elim (λ (h : s < 0x1000). record { row = after_e0; among = (2, omega arith, refl); low = omega arith; high = omega arith }) (λ (l2 : 0x1000 ≤ s). ⊎_elim (λ (h : s < 0xD000). record { row = three_bytes; among = (3, omega arith, refl); low = omega arith; high = omega arith }) (λ (l3 : 0xD000 ≤ s). ⊎_elim (λ (h : s < 0xD800). record { row = after_ed; among = (4, omega arith, refl); low = omega arith; high = omega arith }) (λ (l4 : 0xD800 ≤ s). ⊎_elim (λ (h : s < 0x1_0000). record { row = after_surrogates; among = (5, omega arith, refl); low = scalar.no_surrogate l4; high = omega arith }) (λ (l5 : 0x1_0000 ≤ s). ⊎_elim (λ (h : s < 0x4_0000). record { row = after_f0; among = (6, omega arith, refl); low = omega arith; high = omega arith }) (λ (l6 : 0x4_0000 ≤ s). ⊎_elim (λ (h : s < 0x10_0000). record { row = four_bytes; among = (7, omega arith, refl); low = omega arith; high = omega arith }) (λ (l7 : 0x10_0000 ≤ s). record { row = after_f4; among = (8, omega arith, refl); low = omega arith; high = omega arith }) (cases_lt s 0x10_0000)) (cases_lt s 0x4_0000)) (cases_lt s 0x1_0000)) (cases_lt s 0xD800)) (cases_lt s 0xD000)) (cases_lt s 0x1000)) (cases_lt s 0x800)) (cases_lt s 0x80)

pub codes_are_the_table : CodesAreTheTable
codes_are_the_table = record {
  each = each_row;
  whole = λ s scalar. let x = row_of_scalar s scalar in (x.row, x.among, x.low, x.high);
}

-- The grammar is the rows.

pub record Encodes (w : List ℕ) : Type 0 where
  pub scalar : ℕ
  pub is_scalar : IsScalar scalar
  pub equal : w ≡ utf8 scalar

encodes : (row : TableRow) (w : List ℕ) → IsOfRow row w → Encodes w
encodes row w x = record { scalar = x.scalar; is_scalar = x.is_scalar; equal = x.equal }

pub char_encodes : (w : List ℕ) → IsUtf8Char w → Encodes w
char_encodes w (inl h) = encodes ascii w (of_ascii w h)
char_encodes w (inr (inl h)) = encodes two_bytes w (of_two_bytes w h)
char_encodes w (inr (inr (inl (inl h)))) = encodes after_e0 w (of_after_e0 w h)
char_encodes w (inr (inr (inl (inr (inl h))))) = encodes three_bytes w (of_three_bytes w h)
char_encodes w (inr (inr (inl (inr (inr (inl h)))))) = encodes after_ed w (of_after_ed w h)
char_encodes w (inr (inr (inl (inr (inr (inr h)))))) = encodes after_surrogates w (of_after_surrogates w h)
char_encodes w (inr (inr (inr (inl h)))) = encodes after_f0 w (of_after_f0 w h)
char_encodes w (inr (inr (inr (inr (inl h))))) = encodes four_bytes w (of_four_bytes w h)
char_encodes w (inr (inr (inr (inr (inr h))))) = encodes after_f4 w (of_after_f4 w h)

pub code_is_char : (s : ℕ) → IsScalar s → IsUtf8Char (utf8 s)
code_is_char s scalar =
    let below = scalar.below in
    ⊎_elim (λ (h : s < 0x80). inl (to_ascii s (omega arith) (omega arith))) (λ (l0 : 0x80 ≤ s). ⊎_elim (λ (h : s < 0x800). inr (inl (to_two_bytes s (omega arith) (omega arith)))) (λ (l1 : 0x800 ≤ s). ⊎_elim (λ (h : s < 0x1000). inr (inr (inl (inl (to_after_e0 s (omega arith) (omega arith)))))) (λ (l2 : 0x1000 ≤ s). ⊎_elim (λ (h : s < 0xD000). inr (inr (inl (inr (inl (to_three_bytes s (omega arith) (omega arith))))))) (λ (l3 : 0xD000 ≤ s). ⊎_elim (λ (h : s < 0xD800). inr (inr (inl (inr (inr (inl (to_after_ed s (omega arith) (omega arith)))))))) (λ (l4 : 0xD800 ≤ s). ⊎_elim (λ (h : s < 0x1_0000). inr (inr (inl (inr (inr (inr (to_after_surrogates s (scalar.no_surrogate l4) (omega arith)))))))) (λ (l5 : 0x1_0000 ≤ s). ⊎_elim (λ (h : s < 0x4_0000). inr (inr (inr (inl (to_after_f0 s (omega arith) (omega arith)))))) (λ (l6 : 0x4_0000 ≤ s). ⊎_elim (λ (h : s < 0x10_0000). inr (inr (inr (inr (inl (to_four_bytes s (omega arith) (omega arith))))))) (λ (l7 : 0x10_0000 ≤ s). inr (inr (inr (inr (inr (to_after_f4 s (omega arith) (omega arith))))))) (cases_lt s 0x10_0000)) (cases_lt s 0x4_0000)) (cases_lt s 0x1_0000)) (cases_lt s 0xD800)) (cases_lt s 0xD000)) (cases_lt s 0x1000)) (cases_lt s 0x800)) (cases_lt s 0x80)

pub codes_are_the_grammar : CodesAreTheGrammar
codes_are_the_grammar = record {
  code = code_is_char;
  char = λ w h. let e = char_encodes w h in (e.scalar, e.is_scalar, e.equal);
}
