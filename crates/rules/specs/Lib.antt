pub mod Fields  -- what the records of a pool show, field by field
pub mod Read  -- the state that the fields of n pages show
pub mod Rules  -- rules 2 to 6 (SPEC 3.2 to 3.6) as tests on the fields v of n pages
pub mod Agree  -- when two pools show the same fields, when fields are sound, and what fields read from bytes keep to
pub mod Drawn  -- the fields that a state determines
pub mod Bytes  -- the fields in the bytes of a pool
pub mod Plain  -- rules 1 to 6 (SPEC 3.1 to 3.6) in plain form
pub mod Judged  -- what validation tells (SPEC 3)
