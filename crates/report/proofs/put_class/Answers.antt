use Rattle.report.proofs.Classes.{class_does}
use Rattle.report.proofs.put_class.Goals as goal

pub returns : goal.returns
returns c = class_does _ _ c.requires.0 _ c.requires.1 _ _ _ _ _ _ c.get_class-r.ensures c.class_pages-pages.ensures c.put_class.ensures
