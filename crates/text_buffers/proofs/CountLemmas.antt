-- The counts of the parts of a text add up to those of the whole, if no code covers a seam.
use Rattle.std.proofs.Common.{◌≡◌, ℕ, ◌+◌, ◌-◌, ◌^◌, ◌<◌, ◌≤◌, List, ◌++◌, length, arith, ap, sym, ◌∙◌, length-append}
use Rattle.std.proofs.lemmas.List.Sums.{sum_by-append, count_by-le-length}
use Rattle.std.specs.Prelude.{count_by, cond, nat_eq}
use Rattle.utf_base.specs.Code.{utf8}
use Rattle.utf_base.specs.Piece.{Inside}
use Rattle.encode_unicode.specs.Pieces.{pieces}
use Rattle.text_buffers.specs.declared.buffers.counts.Counts.{Counts}
use Rattle.text_buffers.specs.Counts.{counts_of, sum_of, exchange_of, IsSmall, AreAmong}
use Rattle.text_runs.specs.ForwardRuns.{is_fault, faulty_item_count}
use Rattle.text_runs.proofs.JoinedCounts.{count_joined, faults_joined, pieces_few}
use Rattle.text_runs.proofs.JoinedPieces.{inside_rest}

-- Counts are equal if each of them is.
abbrev make : ℕ → ℕ → ℕ → ℕ → Counts
make b p f l = record { bytes = b; pieces = p; faults = f; line_feeds = l }

pub same_counts : (c d : Counts) → c.bytes ≡ d.bytes → c.pieces ≡ d.pieces → c.faults ≡ d.faults → c.line_feeds ≡ d.line_feeds → c ≡ d
same_counts c d bytes of_pieces faults feeds =
    ap (λ n. make n c.pieces c.faults c.line_feeds) bytes
    ∙ (ap (λ n. make d.bytes n c.faults c.line_feeds) of_pieces
    ∙ (ap (λ n. make d.bytes d.pieces n c.line_feeds) faults
    ∙ ap (λ n. make d.bytes d.pieces d.faults n) feeds))

module _ (a b : List ℕ) (seam : Inside utf8 (a ++ b) (length a) → ⊥) where
  pub counts_joined : counts_of (a ++ b) ≡ sum_of (counts_of a) (counts_of b)
  counts_joined =
      same_counts (counts_of (a ++ b)) (sum_of (counts_of a) (counts_of b)) (length-append a b) (count_joined a b seam) (faults_joined a b seam)
      (sum_by-append (λ x. cond (nat_eq x 0x0A) 1 0) a b)

-- If a `usize` can count the bytes, it can count all else.
pub counts_small : (xs : List ℕ) → length xs < 2 ^ 64 → IsSmall (counts_of xs)
counts_small xs small =
    let of_pieces : length (pieces xs) ≤ length xs = pieces_few xs in
    let faults : faulty_item_count (pieces xs) ≤ length (pieces xs) = count_by-le-length is_fault (pieces xs) in
    let feeds : count_by (λ x. nat_eq x 0x0A) xs ≤ length xs = count_by-le-length (λ x. nat_eq x 0x0A) xs in
    record { bytes = small; pieces = omega arith; faults = omega arith; line_feeds = omega arith }

-- a part between two seams
pub record Seams (p m q : List ℕ) : Type 0 where
  pub begins : Inside utf8 (p ++ (m ++ q)) (length p) → ⊥
  pub ends : Inside utf8 (p ++ (m ++ q)) (length p + length m) → ⊥

pub counts_parted : (p m q : List ℕ) → Seams p m q → counts_of (p ++ (m ++ q)) ≡ sum_of (counts_of p) (sum_of (counts_of m) (counts_of q))
counts_parted p m q seams =
    counts_joined p (m ++ q) seams.begins
    ∙ ap (sum_of (counts_of p)) (counts_joined m q (λ i. seams.ends (inside_rest utf8 p (m ++ q) (length m) i)))

exchanged : (p m n q : ℕ) → p + (n + q) ≡ p + (m + q) - m + n
exchanged p m n q = omega arith

-- one part replaces another
pub counts_exchanged : (p m n q : List ℕ) → Seams p m q → Seams p n q → counts_of (p ++ (n ++ q)) ≡ exchange_of (counts_of (p ++ (m ++ q))) (counts_of m) (counts_of n)
counts_exchanged p m n q was is =
    let P = counts_of p in
    let M = counts_of m in
    let N = counts_of n in
    let Q = counts_of q in
    counts_parted p n q is
    ∙ (same_counts (sum_of P (sum_of N Q)) (exchange_of (sum_of P (sum_of M Q)) M N)
    (exchanged P.bytes M.bytes N.bytes Q.bytes) (exchanged P.pieces M.pieces N.pieces Q.pieces)
    (exchanged P.faults M.faults N.faults Q.faults) (exchanged P.line_feeds M.line_feeds N.line_feeds Q.line_feeds)
    ∙ ap (λ (c : Counts). exchange_of c M N) (sym (counts_parted p m q was)))

part_of_sum : (p m q all : Counts) → all ≡ sum_of p (sum_of m q) → AreAmong m all
part_of_sum p m q all e =
    let bytes : all.bytes ≡ p.bytes + (m.bytes + q.bytes) = ap (λ (c : Counts). c.bytes) e in
    let of_pieces : all.pieces ≡ p.pieces + (m.pieces + q.pieces) = ap (λ (c : Counts). c.pieces) e in
    let faults : all.faults ≡ p.faults + (m.faults + q.faults) = ap (λ (c : Counts). c.faults) e in
    let feeds : all.line_feeds ≡ p.line_feeds + (m.line_feeds + q.line_feeds) = ap (λ (c : Counts). c.line_feeds) e in
    record { bytes = omega arith; pieces = omega arith; faults = omega arith; line_feeds = omega arith }

pub counts_part : (p m q : List ℕ) → Seams p m q → AreAmong (counts_of m) (counts_of (p ++ (m ++ q)))
counts_part p m q seams = part_of_sum (counts_of p) (counts_of m) (counts_of q) (counts_of (p ++ (m ++ q))) (counts_parted p m q seams)
