-- How long the texts are.
use Rattle.std.proofs.Common.{ℕ, zero, suc, ◌+◌, ◌*◌, ◌%◌, ◌<◌, ◌≤◌, ◌^◌, List, [], ◌∷◌, ◌++◌, All, length, arith}
use Rattle.std.specs.Prelude.{codes, decimal}
use Rattle.std.proofs.lemmas.List.{length-append}
use Rattle.std.proofs.lemmas.List.Elements.{All-append, All-cons, All-nil}
use Rattle.std.proofs.lemmas.Fmt.{length-decimal-le}
use Rattle.std.proofs.Math.Nat.{mod-lt}
use Rattle.workload_scripts.specs.declared.draws.Transfer.{Transfer}
use Rattle.workload_scripts.specs.Draws.{drawn, transfer_drawn, behind_transfers}
use Rattle.workload_scripts.specs.Texts.{numbered, store_text, find_text, move_text, transfer_text}
use Rattle.workload_scripts.specs.Scripts.{definitions, drawn_before, first_script, stores_to, transfer_script, transfers_to}

-- a number of 32 bits has at most ten digits
short_number : (n : ℕ) → n < 2 ^ 32 → length (decimal n) ≤ 10
short_number n small = length-decimal-le 10 n (omega arith) (omega (arith, small)) (omega (arith, small))

-- two parts
both : (a b : List ℕ) (m n : ℕ) → length a ≤ m → length b ≤ n → length (a ++ b) ≤ m + n
both a b m n p q = let joined = length-append a b in omega (arith, joined, p, q)

of_number : (words : List ℕ) (m n : ℕ) → length words ≤ m → n < 2 ^ 32 → length (numbered words n) ≤ m + 10
of_number words m n p small = both words (decimal n) m 10 p (short_number n small)

of_store : (account : ℕ) → account < 2 ^ 32 → length (store_text account) ≤ 80
of_store account small =
    both (numbered (codes "STORE A IN ACCOUNTS USING A.ID = ") account) (codes "; A.BAL = 1000; END_STORE\n") 45 35
    (of_number (codes "STORE A IN ACCOUNTS USING A.ID = ") 35 account (omega arith) small) (omega arith)

of_stores : (accounts : ℕ) → accounts < 2 ^ 32 → length (stores_to accounts) ≤ 80 * accounts
unfolding stores_to
of_stores zero small = omega arith
of_stores (suc n) small =
    let here = both (stores_to n) (store_text (suc n)) (80 * n) 80 (of_stores n (omega (arith, small))) (of_store (suc n) small) in
    omega (arith, here)

pub of_first : (accounts : ℕ) → accounts < 2 ^ 32 → length (first_script accounts) ≤ 400 + 80 * accounts
of_first accounts small =
    let here = both (definitions ++ stores_to accounts) (codes "COMMIT\n") (300 + 80 * accounts) 100
    (both definitions (stores_to accounts) 300 (80 * accounts) (omega arith) (of_stores accounts small)) (omega arith) in
    omega (arith, here)

-- who is named, and what is moved, are numbers of 32 bits
pub record IsShort (t : Transfer) : Type 0 where
  pub from : t.from < 2 ^ 32
  pub to : t.to < 2 ^ 32
  pub amount : t.amount < 2 ^ 32

of_transfer : (t : Transfer) → IsShort t → length (transfer_text t) ≤ 300
of_transfer t short =
    both (codes "START_TRANSACTION READ_WRITE\n" ++ find_text t ++ move_text t) (codes "; END_MODIFY\nEND_FOR END_FOR\nCOMMIT\n") 250 50
    (both (codes "START_TRANSACTION READ_WRITE\n" ++ find_text t) (move_text t) 130 120
    (both (codes "START_TRANSACTION READ_WRITE\n") (find_text t) 30 100 (omega arith)
    (both (numbered (codes "FOR A IN ACCOUNTS WITH A.ID = ") t.from) (numbered (codes " FOR B IN ACCOUNTS WITH B.ID = ") t.to) 50 50
    (of_number (codes "FOR A IN ACCOUNTS WITH A.ID = ") 40 t.from (omega arith) short.from) (of_number (codes " FOR B IN ACCOUNTS WITH B.ID = ") 40 t.to (omega arith) short.to)))
    (both (numbered (codes "\nMODIFY A USING A.BAL = A.BAL - ") t.amount) (numbered (codes "; END_MODIFY\nMODIFY B USING B.BAL = B.BAL + ") t.amount) 55 65
    (of_number (codes "\nMODIFY A USING A.BAL = A.BAL - ") 45 t.amount (omega arith) short.amount) (of_number (codes "; END_MODIFY\nMODIFY B USING B.BAL = B.BAL + ") 55 t.amount (omega arith) short.amount)))
    (omega arith)

within : (accounts x : ℕ) → 0 < accounts → accounts < 2 ^ 32 → 1 + x % accounts < 2 ^ 32
within accounts x some small = let below = mod-lt x some in omega (arith, below, small)

drawn_short : (accounts x : ℕ) → 0 < accounts → accounts < 2 ^ 32 → IsShort (transfer_drawn accounts x)
drawn_short accounts x some small = record {
  from = within accounts (drawn x) some small;
  to = within accounts (drawn (drawn x)) some small;
  amount = within 100 (drawn (drawn (drawn x))) (omega arith) (omega arith);
}

of_transfers : (accounts x made : ℕ) → 0 < accounts → accounts < 2 ^ 32 → length (transfers_to accounts x made) ≤ 300 * made
unfolding transfers_to
of_transfers accounts x zero some small = omega arith
of_transfers accounts x (suc made) some small =
    let here = both (transfers_to accounts x made) (transfer_text (transfer_drawn accounts (behind_transfers x made))) (300 * made) 300
    (of_transfers accounts x made some small) (of_transfer (transfer_drawn accounts (behind_transfers x made)) (drawn_short accounts (behind_transfers x made) some small)) in
    omega (arith, here)

pub of_session : (accounts others : ℕ) → 0 < accounts → accounts < 2 ^ 32 → length (transfer_script accounts others) ≤ 10000
of_session accounts others some small = let here = of_transfers accounts (drawn_before accounts others) 25 some small in omega (arith, here)

-- one script more
pub short_more : (texts : List (List ℕ)) (text : List ℕ) → All (λ t. length t ≤ 10000) texts → length text ≤ 10000 → All (λ t. length t ≤ 10000) (texts ++ text ∷ [])
short_more texts text all here = All-append (λ t. length t ≤ 10000) texts (text ∷ []) all (All-cons (λ t. length t ≤ 10000) text [] here (All-nil (λ t. length t ≤ 10000)))
