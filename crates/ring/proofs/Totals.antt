-- Laws of `fill_of` and `total_after`, for totals that pass 2^32. All of it is the library's interface. Assumes nothing.
use Rattle.std.proofs.Common.{◌≡◌, ℕ, ◌+◌, ◌-◌, ◌%◌, ◌^◌, ◌<◌, ◌≤◌, refl, arith}
use Rattle.rules.specs.Queue.{total_after, fill_of}

pub total_after-lt : (total by : ℕ) → total_after total by < 2 ^ 32
unfolding total_after
total_after-lt total by = omega arith

pub fill_of-lt : (posted taken : ℕ) → fill_of posted taken < 2 ^ 32
unfolding fill_of
fill_of-lt posted taken = omega arith

-- an empty queue, as it is made and whenever all was taken
pub fill_of-same : (total : ℕ) → fill_of total total ≡ 0
unfolding fill_of
fill_of-same total = omega arith

-- a worked number: 2^32 + 1 posted, 2^32 - 1 taken
pub fill_of-across : fill_of 1 4294967295 ≡ 2
unfolding fill_of
fill_of-across = refl

-- nothing else is empty
pub fill_of-zero : (posted taken : ℕ) → posted < 2 ^ 32 → taken < 2 ^ 32 → fill_of posted taken ≡ 0 → posted ≡ taken
unfolding fill_of
fill_of-zero posted taken p t e = omega arith

-- the one number that leads from the entries taken to those posted
pub fill_of-is : (posted taken fill : ℕ) → posted < 2 ^ 32 → taken < 2 ^ 32 → fill < 2 ^ 32 → (fill + taken) % 2 ^ 32 ≡ posted → fill ≡ fill_of posted taken
unfolding fill_of
fill_of-is posted taken fill p t f e = omega arith

pub fill_of-back : (posted taken : ℕ) → posted < 2 ^ 32 → taken < 2 ^ 32 → total_after taken (fill_of posted taken) ≡ posted
unfolding fill_of total_after
fill_of-back posted taken p t = omega arith

-- one more posted
pub fill_of-post : (posted taken : ℕ) → posted < 2 ^ 32 → taken < 2 ^ 32 → fill_of posted taken < 2 ^ 32 - 1
    → fill_of (total_after posted 1) taken ≡ fill_of posted taken + 1
unfolding fill_of total_after
fill_of-post posted taken p t h = omega arith

-- m taken, of those that are there
pub fill_of-take : (posted taken m : ℕ) → posted < 2 ^ 32 → taken < 2 ^ 32 → m ≤ fill_of posted taken
    → fill_of posted (total_after taken m) ≡ fill_of posted taken - m
unfolding fill_of total_after
fill_of-take posted taken m p t h = omega arith
