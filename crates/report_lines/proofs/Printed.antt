-- What the code prints is the line.
use mathlib.Core.Path.{◌≡◌}
use mathlib.Core.List.{List, ◌++◌}
use Prim.Native.Nat.{ℕ}
use Rattle.model.specs.Classes.{chunk}
use Rattle.model.specs.Live.{small}
use Rattle.printing.specs.Text.{phrase, pair_line, Prints}
use Rattle.printing.proofs.Writing.{prints_then}
use Rattle.report_lines.specs.Lines.{class_word, pages_word, used_word, total_word, asks_word, failures_word, block_word, of_class_word, class_line, block_line}

pub class_printed : (s t u v : List ℕ) (n a b r : ℕ) (size c pages used total asks failures : ℕ) → size ≡ chunk c →
    Prints s t n a (phrase class_word size) → Prints t u a b (phrase pages_word pages) →
    Prints u v b r (phrase used_word used ++ (phrase total_word total ++ pair_line asks_word asks failures_word failures)) →
    Prints s v n r (class_line (chunk c) pages used total asks failures)
unfolding class_line
class_printed s t u v n a b r size c pages used total asks failures e x y z =
    rw (← e) (prints_then s t v n a r _ _ x (prints_then t u v a b r _ _ y z))

pub chunk_printed : (s u : List ℕ) (n r off size c : ℕ) → size ≡ chunk c → Prints s u n r (pair_line block_word off of_class_word size) →
    Prints s u n r (block_line (small off c))
unfolding block_line
chunk_printed s u n r off size c e p = rw (← e) p
