-- Pieces appended in turn.
use Rattle.std.proofs.Common.{◌≡◌, ℕ, List, ◌++◌, append_assoc}

pub append-five : (t t1 t2 t3 t4 t5 a b c d e : List ℕ) → t1 ≡ t ++ a → t2 ≡ t1 ++ b → t3 ≡ t2 ++ c → t4 ≡ t3 ++ d → t5 ≡ t4 ++ e
    → t5 ≡ t ++ (a ++ b ++ c ++ d ++ e)
append-five t t1 t2 t3 t4 t5 a b c d e p q r s u = rw (u, s, r, q, p) (simp append_assoc)

-- the last two together
pub append-body : (t t1 t2 t3 t4 t5 a b c d e : List ℕ) → t1 ≡ t ++ a → t2 ≡ t1 ++ b → t3 ≡ t2 ++ c → t4 ≡ t3 ++ d → t5 ≡ t4 ++ e
    → t5 ≡ t ++ (a ++ b ++ c ++ (d ++ e))
append-body t t1 t2 t3 t4 t5 a b c d e p q r s u = rw (u, s, r, q, p) (simp append_assoc)
