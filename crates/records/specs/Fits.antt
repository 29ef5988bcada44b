-- Records whose fields are numbers of their widths.
use Rattle.std.specs.Prelude.{◌<◌}
use Rattle.records.specs.declared.Header.{Header}
use Rattle.records.specs.declared.ClassRecord.{ClassRecord}
use Rattle.records.specs.declared.Links.{Links}

pub record HeaderFits (h : Header) : Type 0 where
  pub edition : h.edition < 256
  pub min_shift : h.min_shift < 16
  pub page_shift : h.page_shift < 16
  pub pages : h.pages < 65536
  pub free_pages : h.free_pages < 65536
  pub first_run : h.first_run.0 < 65536

pub record ClassFits (r : ClassRecord) : Type 0 where
  pub first : r.first.0 < 65536
  pub used : r.used < 16777216
  pub total : r.total < 16777216
  pub reqs : r.reqs < 4294967296
  pub fails : r.fails < 4294967296

pub record LinksFit (l : Links) : Type 0 where
  pub kind : l.kind < 8
  pub class : l.class < 16
  pub run : l.run < 65536
  pub next : l.next.0 < 65536
  pub prev : l.prev.0 < 65536
