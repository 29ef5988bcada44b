-- Records by value with one field changed, as the code does it.
use Rattle.std.specs.Prelude.{ℕ}
use Rattle.records.specs.declared.Header.{Header}
use Rattle.records.specs.declared.ClassRecord.{ClassRecord}

abbrev pub free_to : (h : Header) (n : ℕ) → Header
free_to h n =
    record {
      edition = h.edition;
      min_shift = h.min_shift;
      page_shift = h.page_shift;
      pages = h.pages;
      free_pages = n;
      first_run = h.first_run;
    }

abbrev pub first_run_to : (h : Header) (p : ℕ) → Header
first_run_to h p =
    record {
      edition = h.edition;
      min_shift = h.min_shift;
      page_shift = h.page_shift;
      pages = h.pages;
      free_pages = h.free_pages;
      first_run = record { 0 = p };
    }

abbrev pub first_to : (r : ClassRecord) (p : ℕ) → ClassRecord
first_to r p = record { first = record { 0 = p }; used = r.used; total = r.total; reqs = r.reqs; fails = r.fails }

abbrev pub used_to : (r : ClassRecord) (n : ℕ) → ClassRecord
used_to r n = record { first = r.first; used = n; total = r.total; reqs = r.reqs; fails = r.fails }

abbrev pub total_to : (r : ClassRecord) (n : ℕ) → ClassRecord
total_to r n = record { first = r.first; used = r.used; total = n; reqs = r.reqs; fails = r.fails }

abbrev pub reqs_to : (r : ClassRecord) (n : ℕ) → ClassRecord
reqs_to r n = record { first = r.first; used = r.used; total = r.total; reqs = n; fails = r.fails }

abbrev pub fails_to : (r : ClassRecord) (n : ℕ) → ClassRecord
fails_to r n = record { first = r.first; used = r.used; total = r.total; reqs = r.reqs; fails = n }
