-- One more turn of a loop that adds to a text.
use Rattle.std.proofs.Common.{◌≡◌, ℕ, suc, ◌+◌, List, [], ◌∷◌, ◌++◌, length, append_assoc, append-nil, refl, ap, ◌∙◌, sym, arith}
use Rattle.workload_scripts.specs.Draws.{transfer_drawn, behind_transfer, behind_transfers}
use Rattle.workload_scripts.specs.Texts.{store_text, transfer_text}
use Rattle.workload_scripts.specs.Scripts.{stores_to, transfers_to, drawn_before, transfer_script, transfer_scripts_to}

next : (n : ℕ) → suc n ≡ n + 1
next n = omega arith

pub no_store : (out : List ℕ) → out ≡ out ++ stores_to 0
unfolding stores_to
no_store out = sym (append-nil out)

one_store : (n : ℕ) → stores_to n ++ store_text (n + 1) ≡ stores_to (n + 1)
unfolding stores_to
one_store n = ap (λ (m : ℕ). stores_to n ++ store_text m) (sym (next n)) ∙ ap (λ (m : ℕ). stores_to m) (next n)

pub store_more : (out : List ℕ) (n : ℕ) → (out ++ stores_to n) ++ store_text (n + 1) ≡ out ++ stores_to (n + 1)
store_more out n = append_assoc out (stores_to n) (store_text (n + 1)) ∙ ap (λ (x : List ℕ). out ++ x) (one_store n)

pub no_transfer : (accounts x : ℕ) (out : List ℕ) → out ≡ out ++ transfers_to accounts x 0
unfolding transfers_to
no_transfer accounts x out = sym (append-nil out)

one_transfer : (accounts x made : ℕ) → transfers_to accounts x made ++ transfer_text (transfer_drawn accounts (behind_transfers x made)) ≡ transfers_to accounts x (made + 1)
unfolding transfers_to
one_transfer accounts x made = ap (λ (m : ℕ). transfers_to accounts x m) (next made)

pub transfer_more : (accounts x made : ℕ) (out : List ℕ) → (out ++ transfers_to accounts x made) ++ transfer_text (transfer_drawn accounts (behind_transfers x made)) ≡ out ++ transfers_to accounts x (made + 1)
transfer_more accounts x made out = append_assoc out (transfers_to accounts x made) (transfer_text (transfer_drawn accounts (behind_transfers x made))) ∙ ap (λ (t : List ℕ). out ++ t) (one_transfer accounts x made)

pub drawn_more : (x made : ℕ) → behind_transfer (behind_transfers x made) ≡ behind_transfers x (made + 1)
unfolding behind_transfers
drawn_more x made = ap (λ (m : ℕ). behind_transfers x m) (next made)

pub none_drawn : (x : ℕ) → x ≡ behind_transfers x 0
unfolding behind_transfers
none_drawn x = refl

pub first_drawn : (accounts : ℕ) → accounts ≡ drawn_before accounts 0
unfolding drawn_before
first_drawn accounts = refl

pub session_drawn : (accounts sessions : ℕ) → behind_transfers (drawn_before accounts sessions) 25 ≡ drawn_before accounts (sessions + 1)
unfolding drawn_before
session_drawn accounts sessions = ap (λ (m : ℕ). drawn_before accounts m) (next sessions)

pub no_script : (accounts : ℕ) → [] ≡ transfer_scripts_to accounts 0
unfolding transfer_scripts_to
no_script accounts = refl

pub script_more : (accounts sessions : ℕ) → transfer_scripts_to accounts sessions ++ transfer_script accounts sessions ∷ [] ≡ transfer_scripts_to accounts (sessions + 1)
unfolding transfer_scripts_to
script_more accounts sessions = ap (λ (m : ℕ). transfer_scripts_to accounts m) (next sessions)

pub four_scripts : (accounts : ℕ) → length (transfer_scripts_to accounts 4) ≡ 4
unfolding transfer_scripts_to
four_scripts accounts = refl
