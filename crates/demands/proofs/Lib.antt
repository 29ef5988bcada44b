pub mod Shown  -- a sound pool's records show what its state shows
pub mod Calls  -- one call on the bytes of a pool
pub mod Turns  -- demand 3 on the bytes of a pool
pub mod Corollaries  -- on sound records
pub mod BookCorollaries  -- what follows from demand 3 at each point of a list of turns, by the live set alone
pub mod Demands  -- the three demands together
pub mod PeakClaims  -- the peak of a class over calls
pub mod Editions  -- what holds of every slice, whatever its edition
pub mod Examples  -- the starred examples on bytes, by the demands and the model's examples
pub mod Allocs  -- alloc on the bytes of a sound pool does what the model does, given what each operation does
pub mod Frees  -- free on the bytes of a sound pool does what the model does, given what each operation does
pub mod Facts  -- what reading the bytes of a sound pool gives, in the words of its state
pub mod Peaks  -- which peaks a call raises: that of the chunk's class alone
pub mod Steps  -- the code's steps on the bytes of a sound pool give the answer and the slice that the calls promise
