-- The product that is compared with total fits a word.
use mathlib.Core.Path.{◌≡◌}
use Prim.Native.Nat.{ℕ, ◌*◌, ◌≤◌, ◌<◌}
use native.Mathlib.Omega.{arith}
use native.Mathlib.Nat.{mul-le-mul}
use Rattle.model.specs.Classes.{counted}
use Rattle.classes.proofs.Numbers.{chunks_512}

pub total-fits : (x y c : ℕ) → x < 65536 → y ≡ counted c → x * y < 18446744073709551616
total-fits x y c h e =
    let k : y ≤ 512 = rw e (unfold counted in omega (arith, chunks_512 c)) in
    let a : x ≤ 65536 = omega arith in
    let z : x * y ≤ 65536 * 512 = mul-le-mul a k in
    omega arith
