pub mod Linked  -- the walk of rules 3 and 4 holds exactly where next and previous show a list that holds each page that passes the test once
pub mod Pages  -- the pages that the fields show, by kind
pub mod Agree  -- the rules and the state that is read depend only on the fields of the n pages and the nine classes, marks on class pages alone
pub mod Rule1  -- rule 1 as a test and in plain form
pub mod Shape  -- the shape of pages (rule 2) as a test and in plain form
pub mod Rule2  -- rule 2 as a test and in plain form: the shape, and the links
pub mod Rules  -- rules 3 to 6 as tests and in plain form
pub mod Peaks  -- rule 6 of the peaks, as a test and in plain form
pub mod Well  -- fields that pass rules 2 to 5 show a well-formed state
pub mod Runs  -- the free runs of a well-formed state by their first page and by their end
pub mod Shown  -- the fields of a well-formed state
pub mod Holds  -- the fields of a well-formed state pass rules 2 to 6, and the state is read back from them
pub mod Drawn  -- sound fields are those that their state determines
pub mod Fits  -- the fields of a well-formed state of at most 4,096 pages are numbers of their widths
pub mod Judged  -- validation tells the first rule that does not hold
