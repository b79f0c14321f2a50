-- Numbers in blocks: the list is all blocks, one after the other.
use Rattle.std.specs.Prelude.{◌≡◌, ℕ, zero, suc, ◌+◌, ◌<◌, ◌≤◌, Bool, true, ◌&&◌, ◌||◌, nat_eq, nat_lt, nat_le, List, [], ◌∷◌, ◌++◌, length, take, drop}
use Rattle.std.specs.Prelude.{vec_capacity}
use Rattle.std.specs.List.{AllByRecursion, flat_map}
use Rattle.std.proofs.Common.{Vec, Global}
use Rattle.name_index.specs.declared.put.TheConstants.{BLOCK, HALF}
use Rattle.name_index.specs.Blocks.{Numbers}

abbrev pub Block : Type 0
Block = Vec ℕ Global

abbrev pub flat : List Block → List ℕ
flat blocks = flat_map (λ b. b.items) blocks

-- A block is not empty, has at most `BLOCK` numbers, and has memory for `BLOCK` numbers.
abbrev pub IsBlock : Block → Type 0
IsBlock b = (0 < length b.items) × (length b.items ≤ BLOCK) × (BLOCK ≤ vec_capacity b)

abbrev pub AreBlocks : List Block → Type 0
AreBlocks blocks = AllByRecursion IsBlock blocks

abbrev pub AreFilled : List Block → Type 0
AreFilled blocks = AllByRecursion (λ b. 0 < length b.items) blocks

abbrev pub numbers_of_blocks : List Block → Bool → Numbers
numbers_of_blocks blocks has_block_room = record { items = flat blocks; ready = has_block_room }

-- whether there is room for one block more, and memory for its numbers
abbrev pub has_block_room : Vec Block Global → Block → Bool
has_block_room blocks spare = nat_lt (length blocks.items) (vec_capacity blocks) && nat_le BLOCK (vec_capacity spare)

-- the numbers of the block at an index
abbrev pub block_at : List Block → ℕ → List ℕ
block_at [] i = []
block_at (b ∷ blocks) zero = b.items
block_at (b ∷ blocks) (suc i) = block_at blocks i

-- the numbers before index `at` of block `i`
abbrev pub before : List Block → ℕ → ℕ → List ℕ
before [] i at = []
before (b ∷ blocks) zero at = take at b.items
before (b ∷ blocks) (suc i) at = b.items ++ before blocks i at

abbrev pub numbers_behind : List Block → ℕ → ℕ → List ℕ
numbers_behind [] i at = []
numbers_behind (b ∷ blocks) zero at = drop at b.items ++ flat blocks
numbers_behind (b ∷ blocks) (suc i) at = numbers_behind blocks i at

-- whether the last number of a block passes the test
abbrev pub last_passes : (ℕ → Bool) → List ℕ → Bool
last_passes p [] = true
last_passes p (x ∷ []) = p x
last_passes p (x ∷ y ∷ xs) = last_passes p (y ∷ xs)

-- whether a place is before another place, or equals it: the blocks are compared first, then the indexes in the block
abbrev pub is_preceded : ℕ → ℕ → ℕ → ℕ → Bool
is_preceded i at j to = nat_lt i j || (nat_eq i j && nat_le at to)

-- A full block was cut in two: each place in the old block is a place in one of the new blocks.
pub record IsHalved (old new : List Block) (i : ℕ) : Type 0 where
  pub blocks : AreBlocks new
  pub one_more : length new ≡ length old + 1
  pub first : length (block_at new i) ≡ HALF
  pub second : length (block_at new (i + 1)) ≡ HALF
  pub before_first : (at : ℕ) → at ≤ HALF → before new i at ≡ before old i at
  pub behind_first : (at : ℕ) → at ≤ HALF → numbers_behind new i at ≡ numbers_behind old i at
  pub before_second : (at : ℕ) → before new (i + 1) at ≡ before old i (HALF + at)
  pub behind_second : (at : ℕ) → numbers_behind new (i + 1) at ≡ numbers_behind old i (HALF + at)
