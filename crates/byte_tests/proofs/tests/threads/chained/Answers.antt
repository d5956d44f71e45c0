use Rattle.std.proofs.Common.{◌≡◌, ℕ, ◌+◌, ◌<◌, ◌^◌, List, [], ◌∷◌, ◌++◌, length, replicate, arith}
use Rattle.std.proofs.lemmas.List.{length-append, length-replicate}
use Rattle.byte_tests.proofs.tests.threads.chained.Goals as goal

few : (m n : ℕ) (a b c : List ℕ) → m + n < 2 ^ 63 → length (replicate m a ++ ((b ∷ []) ++ replicate n c)) < 2 ^ 64
few m n a b c h =
    let all : length (replicate m a ++ ((b ∷ []) ++ replicate n c)) ≡ length (replicate m a) + length (b ∷ replicate n c) = length-append (replicate m a) (b ∷ replicate n c) in
    let back : length (b ∷ replicate n c) ≡ length (replicate n c) + 1 = omega arith in
    omega (arith, h, all, back, length-replicate m a, length-replicate n c)

pub returns : goal.returns
returns c = few c.args.first.times c.args.last.times c.args.first.line.now c.args.between.bytes.now c.args.last.line.now c.requires
