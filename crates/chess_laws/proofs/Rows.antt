-- A table of two sides says of each pair what it says of all.
use Rattle.chess_laws.proofs.Words.{◌≡◌, ℕ, ◌<◌, Bool, true, agree_below, agree_below_at}

pub pair-at : (test : ℕ → ℕ → Bool) (n m a b : ℕ) → agree_below (λ a. agree_below (test a) (λ b. true) m) (λ a. true) n ≡ true → a < n → b < m → test a b ≡ true
pair-at test n m a b all a_less b_less = agree_below_at (test a) (λ b. true) m b (agree_below_at (λ a. agree_below (test a) (λ b. true) m) (λ a. true) n a all a_less) b_less
