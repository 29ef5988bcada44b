-- Packing and unpacking undo each other; a word changed is an entry changed.
use mathlib.Core.Path.{◌≡◌, sym, ap, ◌∙◌, fun_ext}
use mathlib.Core.Logic.{◌⊎◌, inl, inr, ◌≢◌}
use mathlib.Core.List.{List}
use Prim.Native.Nat.{ℕ, ◌+◌, ◌*◌, ◌/◌, ◌%◌, ◌<◌}
use native.Mathlib.Omega.{arith}
use lib.ListN.{length, set}
use lib.Seq.{get_or-set_same, get_or-set_other}
use Rattle.base.specs.Functions.{upd}
use Rattle.base.proofs.Cases.{eq?}
use Rattle.base.proofs.Functions.{upd_same, upd_other}
use Rattle.keeper_model.specs.Store.{Entry}
use Rattle.keeper_words.specs.Words.{key_of, len_of, off_of, word_of, entry_of, entries}

pub entry-word : (e : Entry) → e.key < 65536 → e.len < 65536 → e.off < 4294967296 → entry_of (word_of e) ≡ e
unfolding key_of len_of off_of word_of
entry-word e k l o =
    let a : (e.key * 281474976710656 + e.len * 4294967296 + e.off) / 281474976710656 % 65536 ≡ e.key = omega arith in
    let b : (e.key * 281474976710656 + e.len * 4294967296 + e.off) / 4294967296 % 65536 ≡ e.len = omega arith in
    let c : (e.key * 281474976710656 + e.len * 4294967296 + e.off) % 4294967296 ≡ e.off = omega arith in
    λ i. record { key = a i; len = b i; off = c i }

pub key-small : (v : ℕ) → key_of v < 65536
unfolding key_of
key-small v = omega arith

pub len-small : (v : ℕ) → len_of v < 65536
unfolding len_of
len-small v = omega arith

-- ---- stores

pub entries-set : (words : List ℕ) (i v : ℕ) → i < length words → entries (set words i v) ≡ upd (entries words) i (entry_of v)
entries-set words i v l = fun_ext (λ j. go j (eq? j i))
  where
    go : (j : ℕ) → (j ≡ i) ⊎ (j ≢ i) → entries (set words i v) j ≡ upd (entries words) i (entry_of v) j
    go j (inl p) = rw p (ap entry_of (get_or-set_same words i v 0 l) ∙ sym (upd_same (entries words) i (entry_of v)))
    go j (inr p) = ap entry_of (get_or-set_other words i j v 0 p) ∙ sym (upd_other (entries words) i (entry_of v) j p)
