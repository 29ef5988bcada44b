-- The tally of a class, raised: the word of counts by what is added, asks and failures by one where they are to, in the order of the code.
use Rattle.std.specs.Prelude.{ℕ, ◌+◌, ◌%◌, Bool, nat_lt}
use Rattle.base.specs.Tests.{pick}
use Rattle.records.specs.declared.ClassRecord.{ClassRecord}
use Rattle.records.specs.Class.{pack_tally, unpack_class}
use Rattle.records.specs.Mirror.{fails_to}
use Rattle.model.specs.Calls.{raise}
use Rattle.classes.specs.Mirror.{chunk_asked}
use Rattle.class_counting.specs.declared.Tally.{Tally}

unfoldable pub counts_more : (more v : ℕ) → ℕ
counts_more more v = (v + more) % 18446744073709551616

unfoldable pub asks_more : (asks : Bool) (v : ℕ) → ℕ
asks_more asks v = pick asks (pack_tally (chunk_asked (unpack_class 0 v))) v

abbrev pub chunk_failed : ClassRecord → ClassRecord
chunk_failed r = fails_to r (raise r.fails)

unfoldable pub fails_more : (fails : Bool) (v : ℕ) → ℕ
fails_more fails v = pick fails (pack_tally (chunk_failed (unpack_class 0 v))) v

unfoldable pub used_in : (v : ℕ) → ℕ
used_in v = (unpack_class v 0).used

unfoldable pub raised_by : (more : ℕ) (asks fails : Bool) (t : Tally) → Tally
raised_by more asks fails t = record {
  counts = counts_more more t.counts;
  asks = fails_more fails (asks_more asks t.asks);
  peak = pick (nat_lt t.peak (used_in (counts_more more t.counts))) (used_in (counts_more more t.counts)) t.peak;
}
