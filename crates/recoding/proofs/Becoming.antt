-- The output for some bytes, step by step, in each way of replacing.
use Rattle.std.proofs.Common.{◌≡◌, ℕ, ◌+◌, ◌-◌, ◌*◌, ◌<◌, ◌≤◌, List, [], ◌∷◌, ◌++◌, Option, Some, None, length, take, drop, flat_map, arith, refl, ap, ap₂, sym, ◌∙◌, subst, append_assoc, length-take}
use Rattle.std.specs.Prelude.{All}
use Rattle.std.proofs.lemmas.List.{append-nil, drop-drop}
use Rattle.std.proofs.lemmas.List.Concat.{flat_map-append}
use Rattle.utf_base.specs.Scalar.{IsScalar}
use Rattle.recoding.specs.declared.form.Form.{Form}
use Rattle.recoding.specs.declared.way.Way.{Way}
use Rattle.recoding.specs.declared.way.Way.TheVariants.{Faults, Subparts, Table}
use Rattle.recoding.specs.NextScalars.{Leads, LeadsLast, ShowsEach}
use Rattle.recoding.specs.Recoded.{Continues, IsRecoded, written}
use Rattle.recoding.specs.RecodedBytes.{recoded}
use Rattle.recoding.specs.Replacing.{Becomes, BeginsBy, BeginsLast, CodeIsLonger, NextIsLonger, code_of, list_by, reads_by}
use Rattle.recoding.specs.Rooms.{Leaves}
use Rattle.recoding.specs.Strict.{Transcodes}
use Rattle.recoding.proofs.FrontBytes.{Ends-from_decides}
use Rattle.recoding.proofs.Growing.{length_written}
use Rattle.recoding.proofs.LossyLists.{lossy_is, same_lossy, text_shows_parts}
use Rattle.recoding.proofs.RecodedLists.{recoded_is, same_list}
use Rattle.recoding.proofs.RoomLemmas.{Decides-more, cut_part, take_more}
use Rattle.recoding.proofs.Repairing.{repaired_is, same_repaired, text_repaired}
use Rattle.recoding.proofs.TextLaws.{text_counts, text_shows}

-- The list, from its front.

-- it is the codes of scalars that the bytes show
list_is : (way : Way) (from to : Form) (bytes : List ℕ) → (ss : List ℕ) × reads_by way from bytes ss × (list_by way from to bytes ≡ flat_map (written to) ss)
list_is Faults from to bytes = recoded_is from to bytes
list_is Subparts from to bytes = lossy_is from to bytes
list_is (Table t) from to bytes = repaired_is t.chars.now from to bytes

same_by : (way : Way) (from to : Form) (bytes out ss : List ℕ) → reads_by way from bytes ss → out ≡ flat_map (written to) ss → out ≡ list_by way from to bytes
same_by Faults from to bytes out ss r e = same_list from to bytes out (ss, r, e)
same_by Subparts from to bytes out ss r e = same_lossy from to bytes out (ss, r, e)
same_by (Table t) from to bytes out ss r e = same_repaired t.chars.now from to bytes out (ss, r, e)

list_first : (way : Way) (from to : Form) (w : List ℕ) (c : Option ℕ) (n : ℕ) → Leads (reads_by way from) w c n → (later : List ℕ)
    → list_by way from to (w ++ later) ≡ code_of to c ++ list_by way from to (drop n w ++ later)
list_first way from to w None n d later = let r = list_is way from to (drop n w ++ later) in sym (same_by way from to (w ++ later) (list_by way from to (drop n w ++ later)) r.0 (d.first later r.0 r.1) r.2)
list_first way from to w (Some s) n d later =
    let r = list_is way from to (drop n w ++ later) in
    sym (same_by way from to (w ++ later) (written to s ++ list_by way from to (drop n w ++ later)) (s ∷ r.0) (d.first later r.0 r.1) (ap (λ xs. written to s ++ xs) r.2))

pub list_last : (way : Way) (from to : Form) (w : List ℕ) (c : Option ℕ) (n : ℕ) → LeadsLast (reads_by way from) w c n → list_by way from to w ≡ code_of to c ++ list_by way from to (drop n w)
list_last way from to w None n d = let r = list_is way from to (drop n w) in sym (same_by way from to w (list_by way from to (drop n w)) r.0 (d.first r.0 r.1) r.2)
list_last way from to w (Some s) n d =
    let r = list_is way from to (drop n w) in
    sym (same_by way from to w (written to s ++ list_by way from to (drop n w)) (s ∷ r.0) (d.first r.0 r.1) (ap (λ xs. written to s ++ xs) r.2))

pub text_reads : (way : Way) (from : Form) (cs : List ℕ) → All IsScalar cs → ShowsEach (reads_by way from) (flat_map (written from) cs) cs
text_reads Faults from cs all = text_shows from cs all
text_reads Subparts from cs all = text_shows_parts from cs all
text_reads (Table t) from cs all = text_repaired from t.chars.now cs all

list_text : (way : Way) (from to : Form) (text out later : List ℕ) → Transcodes from to text out → list_by way from to (text ++ later) ≡ out ++ list_by way from to later
list_text way from to text out later t =
    let r = list_is way from to later in
    sym (same_by way from to (text ++ later) (out ++ list_by way from to later) (t.scalars ++ r.0) (rw t.codes (text_reads way from t.scalars t.all later r.0 r.1))
    (ap₂ (λ xs ys. xs ++ ys) t.made r.2 ∙ sym (flat_map-append (written to) t.scalars r.0)))

-- The bytes that show a scalar, or nothing.

leads_some : (reads : List ℕ → List ℕ → Type 0) (w : List ℕ) (n : ℕ) (c : Option ℕ) → Leads reads w c n → 0 < n
leads_some reads w n None d = d.some
leads_some reads w n (Some s) d = d.some

leads_within : (reads : List ℕ → List ℕ → Type 0) (w : List ℕ) (n : ℕ) (c : Option ℕ) → Leads reads w c n → n ≤ length w
leads_within reads w n None d = d.within
leads_within reads w n (Some s) d = d.within

leads_short : (to : Form) (reads : List ℕ → List ℕ → Type 0) (w : List ℕ) (n : ℕ) (c : Option ℕ) → Leads reads w c n → length (code_of to c) ≤ 3 * n
leads_short to reads w n None d = omega arith
leads_short to reads w n (Some s) d = length_written to s n d.some d.wide

last_some : (reads : List ℕ → List ℕ → Type 0) (w : List ℕ) (n : ℕ) (c : Option ℕ) → LeadsLast reads w c n → 0 < n
last_some reads w n None d = d.some
last_some reads w n (Some s) d = d.some

last_within : (reads : List ℕ → List ℕ → Type 0) (w : List ℕ) (n : ℕ) (c : Option ℕ) → LeadsLast reads w c n → n ≤ length w
last_within reads w n None d = d.within
last_within reads w n (Some s) d = d.within

last_short : (to : Form) (reads : List ℕ → List ℕ → Type 0) (w : List ℕ) (n : ℕ) (c : Option ℕ) → LeadsLast reads w c n → length (code_of to c) ≤ 3 * n
last_short to reads w n None d = omega arith
last_short to reads w n (Some s) d = length_written to s n d.some d.wide

module _ {way : Way} {from : Form} {w : List ℕ} {c : Option ℕ} {n k : ℕ} where
  pub begins_some : BeginsBy way from w c n k → 0 < n
  begins_some b = leads_some (reads_by way from) w n c b.leads

  pub begins_within : BeginsBy way from w c n k → n ≤ length w
  begins_within b = leads_within (reads_by way from) w n c b.leads

  pub begins_short : (to : Form) → BeginsBy way from w c n k → length (code_of to c) ≤ 3 * n
  begins_short to b = leads_short to (reads_by way from) w n c b.leads

  pub ends_some : BeginsLast way from w c n k → 0 < n
  ends_some b = last_some (reads_by way from) w n c b.leads

  pub ends_within : BeginsLast way from w c n k → n ≤ length w
  ends_within b = last_within (reads_by way from) w n c b.leads

  pub ends_short : (to : Form) → BeginsLast way from w c n k → length (code_of to c) ≤ 3 * n
  ends_short to b = last_short to (reads_by way from) w n c b.leads

last_of_leads : (reads : List ℕ → List ℕ → Type 0) (w : List ℕ) (n : ℕ) (c : Option ℕ) → Leads reads w c n → LeadsLast reads w c n
last_of_leads reads w n None d = record { some = d.some; within = d.within; first = λ ss r. rw (append-nil w) at (d.first [] ss (rw (append-nil (drop n w)) r)) }
last_of_leads reads w n (Some s) d = Ends-from_decides d

-- a piece that begins the bytes whatever follows begins them if nothing does
pub BeginsLast-of : {way : Way} {from : Form} {w : List ℕ} {c : Option ℕ} {n k : ℕ} → BeginsBy way from w c n k → BeginsLast way from w c n k
BeginsLast-of {way} {from} {w} {c} {n} begins = record {
  leads = last_of_leads (reads_by way from) w n c begins.leads;
  few = begins.few;
  counts = rw (append-nil w, append-nil (drop n w)) at (begins.counts []);
}

-- the piece that begins them is longer than the buffer
pub NextIsLonger-of : (way : Way) {from to : Form} (w x : List ℕ) (c : Option ℕ) {n k room : ℕ} → BeginsBy way from w c n k → CodeIsLonger to c room → NextIsLonger way from to (w ++ x) room
NextIsLonger-of way w x None begins long = absurd long
NextIsLonger-of way {from} w x (Some s) {n} begins long = record { scalar = s; len = n; begins = Decides-more (reads_by way from) w x s n begins.leads; longer = long }

-- The output for some bytes, whatever follows them.

none_before : (n : ℕ) → n ≡ 0 + n
none_before n = omega arith

pub Becomes-none : (way : Way) (from to : Form) (bytes : List ℕ) → Becomes way from to bytes [] 0 bytes
Becomes-none way from to bytes = record { same = λ later. refl; counts = λ later. none_before _ }

pub Becomes-then : {way : Way} {from to : Form} {a g b k c : List ℕ} {m n : ℕ} → Becomes way from to a g m b → Becomes way from to b k n c → Becomes way from to a (g ++ k) (m + n) c
Becomes-then {way} {from} {to} {a} {g} {b} {k} {c} h i = record {
  same = λ later. h.same later ∙ ap (λ xs. g ++ xs) (i.same later) ∙ sym (append_assoc g k (list_by way from to (c ++ later)));
  counts = λ later. omega (arith, h.counts later, i.counts later);
}

-- the same bytes after both outputs
pub Becomes-more : {way : Way} {from to : Form} {a g b : List ℕ} {n : ℕ} (x : List ℕ) → Becomes way from to a g n b → Becomes way from to (a ++ x) g n (b ++ x)
Becomes-more {way} {from} {to} {a} {g} {b} x h = record {
  same = λ later. ap (list_by way from to) (append_assoc a x later) ∙ h.same (x ++ later) ∙ ap (λ xs. g ++ list_by way from to xs) (sym (append_assoc b x later));
  counts = λ later. rw (append_assoc a x later, append_assoc b x later) (h.counts (x ++ later));
}

pub Becomes-front : {way : Way} {from : Form} {to : Form} {w : List ℕ} {c : Option ℕ} {n k : ℕ} → BeginsBy way from w c n k → Becomes way from to w (code_of to c) k (drop n w)
Becomes-front {way} {from} {to} {w} {c} {n} d = record { same = list_first way from to w c n d.leads; counts = d.counts }

Becomes-text : {way : Way} {from to : Form} {text out : List ℕ} → Transcodes from to text out → Becomes way from to text out 0 []
Becomes-text {way} {from} {to} {text} {out} t = record {
  same = λ later. list_text way from to text out later t;
  counts = λ later. rw (sym t.codes) at (text_counts from t.scalars later t.all) ∙ none_before _;
}

pub Becomes-where : {way : Way} {from to : Form} {a g b : List ℕ} {n : ℕ} (c d : List ℕ) → a ≡ c → b ≡ d → Becomes way from to a g n b → Becomes way from to c g n d
Becomes-where {way} {from} {to} {a} {g} {b} {n} c d e f h = subst (λ xs. Becomes way from to xs g n d) e (subst (λ ys. Becomes way from to a g n ys) f h)

-- Steps that the next three bytes decide.

-- text
pub next_text : {way : Way} {from to : Form} {grown : List ℕ} (bytes : List ℕ) (n : ℕ) → Transcodes from to (take n bytes) grown
    → Becomes way from to (take (n + 3) bytes) grown 0 (take 3 (drop n bytes))
next_text bytes n t = Becomes-where (take (n + 3) bytes) (take 3 (drop n bytes)) (take_more n 3 bytes) refl (Becomes-more (take 3 (drop n bytes)) (Becomes-text t))

-- a piece that four bytes decide
pub next_piece : {way : Way} {from to : Form} (xs : List ℕ) (c : Option ℕ) (n : ℕ) {k : ℕ} → BeginsBy way from (take 4 xs) c n k
    → Becomes way from to (take (n + 3) xs) (code_of to c) k (take 3 (drop n xs))
next_piece {way} {from} {to} xs c n begins =
    let some = begins_some begins in
    let le : n ≤ 4 = omega (arith, begins_within begins, length-take 4 xs) in
    let count : 4 + (n - 1) ≡ n + 3 = omega arith in
    let four : n + (4 - n) ≡ 4 = omega arith in
    let three : 4 - n + (n - 1) ≡ 3 = omega arith in
    let more : List ℕ = take (n - 1) (drop 4 xs) in
    let whole : take 4 xs ++ more ≡ take (n + 3) xs = take_more 4 (n - 1) xs ∙ ap (λ k. take k xs) count in
    let rest : drop 4 xs ≡ drop (4 - n) (drop n xs) = ap (λ k. drop k xs) (sym four) ∙ sym (drop-drop (4 - n) n xs) in
    let left : drop n (take 4 xs) ++ more ≡ take 3 (drop n xs) =
    ap₂ (λ ys zs. ys ++ take (n - 1) zs) (sym (cut_part n 4 xs le)) rest ∙ take_more (4 - n) (n - 1) (drop n xs) ∙ ap (λ k. take k (drop n xs)) three in
    Becomes-where (take (n + 3) xs) (take 3 (drop n xs)) whole left (Becomes-more more (Becomes-front begins))

-- one run after another
pub run_after : {way : Way} {from to : Form} {g k : List ℕ} {i j : ℕ} (bytes : List ℕ) (p n : ℕ) → Becomes way from to (take (p + 3) bytes) g i (take 3 (drop p bytes))
    → Becomes way from to (take (n + 3) (drop p bytes)) k j (take 3 (drop n (drop p bytes))) → Becomes way from to (take (p + n + 3) bytes) (g ++ k) (i + j) (take 3 (drop (p + n) bytes))
run_after {way} {from} {to} {g} {k} {i} {j} bytes p n f h =
    let xs : List ℕ = drop p bytes in
    let more : List ℕ = take n (drop (p + 3) bytes) in
    let end : p + 3 + n ≡ p + n + 3 = omega arith in
    let turned : 3 + n ≡ n + 3 = omega arith in
    let whole : take (p + 3) bytes ++ more ≡ take (p + n + 3) bytes = take_more (p + 3) n bytes ∙ ap (λ m. take m bytes) end in
    let looked : take 3 xs ++ more ≡ take (n + 3) xs = ap (λ ys. take 3 xs ++ take n ys) (sym (drop-drop 3 p bytes)) ∙ take_more 3 n xs ∙ ap (λ m. take m xs) turned in
    let left : Becomes way from to (take (n + 3) xs) k j (take 3 (drop (p + n) bytes)) = Becomes-where (take (n + 3) xs) (take 3 (drop (p + n) bytes)) refl (ap (take 3) (drop-drop n p bytes)) h in
    Becomes-then (Becomes-where (take (p + n + 3) bytes) (take (n + 3) xs) whole looked (Becomes-more more f)) left

-- The transcoded bytes.

recoded_then : (from to : Form) (a g b rest : List ℕ) → recoded from to a ≡ g ++ recoded from to b → IsRecoded from to b rest → IsRecoded from to a (g ++ rest)
recoded_then from to a g b rest h r = subst (λ xs. IsRecoded from to a xs) (h ∙ ap (λ xs. g ++ xs) (sym (same_list from to b rest r))) (recoded_is from to a)

pub continues_of : {from to : Form} {a g b : List ℕ} {n : ℕ} → Becomes Faults from to a g n b → Continues from to a g b
continues_of {from} {to} {a} {g} {b} h later rest r = recoded_then from to (a ++ later) g (b ++ later) rest (h.same later) r

pub leaves_of : (from to : Form) (a g b : List ℕ) → list_by Faults from to a ≡ g ++ list_by Faults from to b → Leaves from to a g b
leaves_of from to a g b h rest r = recoded_then from to a g b rest h r
