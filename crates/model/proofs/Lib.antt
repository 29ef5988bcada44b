-- The proofs of the model; `Claim` ends with all statements.
pub mod Classes  -- the nine classes' numbers, the marks of a page, and what a size asks for
pub mod Runs  -- the list of free runs stays that of the maximal free stretches when pages are taken and released
pub mod Table  -- the page table stays well formed when a stretch of it that no taken run crosses is replaced
pub mod Lists  -- the class lists stay those of the pages with a clear mark
pub mod Tallies  -- tallies stay of 32 bits, and none stands past class 8
pub mod Blocks  -- live blocks
pub mod Occupy  -- pages cut from the front of a free run, whatever they become
pub mod AllocRun  -- a granted alloc of pages keeps the state well formed and adds its block
pub mod CutPage  -- an alloc that cuts a new class page keeps the state well formed and adds its block
pub mod Remark  -- the marks of a class page change
pub mod MarkChunk  -- an alloc from the first page of a class list keeps the state well formed and adds its block
pub mod Release  -- the pages of a taken run or a class page become free
pub mod FreeRun  -- a granted free of a taken run keeps the state well formed and strikes out its block
pub mod FreeChunk  -- a granted free of a chunk keeps the state well formed and strikes out its block
pub mod Steps  -- every call keeps a well-formed state well formed, and does to the live blocks what `Effect` says
pub mod Fresh  -- a fresh pool is well formed and has no live block
pub mod LiveSets  -- the live set of a state
pub mod Shown  -- what a well-formed state shows of pages, free runs and marks is what its live set says
pub mod Counts  -- the counts that a well-formed state shows, used and total, are those of its live set
pub mod Used  -- what a class has in use rises by an alloc of its own chunks alone
pub mod Readings  -- the expected view of a state's live set, read in the words of SPEC 6.3
pub mod Ruling  -- whether a call is granted, and by which number it is refused, is what the state shows
pub mod Placing  -- where the live blocks of a well-formed state lie, and that a call leaves alone the blocks that stay live
pub mod Room  -- when a call is refused for room, and what a refused call leaves
pub mod Alike  -- what a state shows, and how it rules a call, depends on its live blocks only
pub mod Examples  -- the worked examples hold, by evaluation
pub mod Claim  -- the statements of `specs/Claim.antt`, proved
