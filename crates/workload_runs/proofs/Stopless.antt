-- The scripts of a workload come to no stop.
use Rattle.std.proofs.Common.{◌≡◌, ℕ, zero, suc, ◌+◌, ◌%◌, ◌==◌, ◌<◌, ◌≤◌, ◌^◌, true, false, List, [], ◌∷◌, ◌++◌, map, refl, arith}
use Rattle.std.specs.Prelude.{codes, decimal}
use Rattle.std.specs.List.{AllByRecursion}
use Rattle.std.proofs.lemmas.Fmt.{decimal_by_steps}
use Rattle.std.proofs.Math.Nat.{mod-lt}
use Rattle.rdo_tokens.specs.Lex.{Text}
use Rattle.script_queues.specs.Scripts.{whole_script}
use Rattle.line_runs.specs.Openings.{stop_of}
use Rattle.workload_scripts.specs.declared.draws.Transfer.{Transfer}
use Rattle.workload_scripts.specs.Draws.{behind_transfers, drawn, transfer_drawn}
use Rattle.workload_scripts.specs.Scripts.{definitions, drawn_before, first_script, stores_to, transfer_script, transfer_scripts_to, transfers_to}
use Rattle.workload_scripts.specs.Texts.{find_text, move_text, numbered, store_text, transfer_text}
use Rattle.workload_runs.specs.declared.preparing.Part.TheVariants.{First, Transfers, Last}
use Rattle.workload_runs.specs.Scripts.{scripts_of_runs, texts_in}
use Rattle.workload_runs.proofs.Deaths.{AreStopless}
use Rattle.workload_runs.proofs.Plain.{is_plain, plain-append, plain-stopless}

-- ---- several texts

abbrev ArePlain : List Text → Type 0
ArePlain = AllByRecursion (λ z. is_plain z ≡ true)

plain-scripts : (texts : List Text) → ArePlain texts → (s : ℕ) → stop_of (map whole_script texts) s ≡ false
plain-scripts texts all zero = refl
plain-scripts [] all (suc i) = refl
plain-scripts (z ∷ texts) all (suc zero) = plain-stopless z all.0
plain-scripts (z ∷ texts) all (suc (suc i)) = plain-scripts texts all.1 (suc i)

plain-more : (texts : List Text) (z : Text) → ArePlain texts → is_plain z ≡ true → ArePlain (texts ++ z ∷ [])
plain-more [] z all one = (one, tt)
plain-more (x ∷ texts) z all one = (all.0, plain-more texts z all.1 one)

-- ---- the texts of a workload

digit-plain : (d : ℕ) → d < 10 → is_plain ((48 + d) ∷ []) ≡ true
digit-plain d h = let other : ((48 + d) == 36) ≡ false = grind (arith, h) in rw other refl

number-plain : (n : ℕ) → n < 2 ^ 64 → is_plain (decimal n) ≡ true
number-plain = decimal_by_steps (λ n ds. is_plain ds ≡ true)
    (λ n h. digit-plain n h)
    (λ n ds h all. plain-append ds ((48 + n % 10) ∷ []) all (digit-plain (n % 10) (mod-lt n (omega arith))))

numbered-plain : (words : Text) (n : ℕ) → is_plain words ≡ true → n < 2 ^ 64 → is_plain (numbered words n) ≡ true
numbered-plain words n plain small = plain-append words (decimal n) plain (number-plain n small)

stores-plain : (accounts : ℕ) → accounts < 2 ^ 64 → is_plain (stores_to accounts) ≡ true
unfolding stores_to
stores-plain zero small = refl
stores-plain (suc n) small =
    plain-append (stores_to n) (store_text (suc n)) (stores-plain n (omega (arith, small)))
    (plain-append (numbered (codes "STORE A IN ACCOUNTS USING A.ID = ") (suc n)) (codes "; A.BAL = 1000; END_STORE\n") (numbered-plain (codes "STORE A IN ACCOUNTS USING A.ID = ") (suc n) refl small) refl)

first-plain : (accounts : ℕ) → accounts < 2 ^ 64 → is_plain (first_script accounts) ≡ true
first-plain accounts small =
    plain-append (definitions ++ stores_to accounts) (codes "COMMIT\n") (plain-append definitions (stores_to accounts) refl (stores-plain accounts small)) refl

transfer-plain : (t : Transfer) → t.from < 2 ^ 64 → t.to < 2 ^ 64 → t.amount < 2 ^ 64 → is_plain (transfer_text t) ≡ true
transfer-plain t from to amount =
    let finds = plain-append (numbered (codes "FOR A IN ACCOUNTS WITH A.ID = ") t.from) (numbered (codes " FOR B IN ACCOUNTS WITH B.ID = ") t.to)
    (numbered-plain (codes "FOR A IN ACCOUNTS WITH A.ID = ") t.from refl from) (numbered-plain (codes " FOR B IN ACCOUNTS WITH B.ID = ") t.to refl to) in
    let moves = plain-append (numbered (codes "\nMODIFY A USING A.BAL = A.BAL - ") t.amount) (numbered (codes "; END_MODIFY\nMODIFY B USING B.BAL = B.BAL + ") t.amount)
    (numbered-plain (codes "\nMODIFY A USING A.BAL = A.BAL - ") t.amount refl amount) (numbered-plain (codes "; END_MODIFY\nMODIFY B USING B.BAL = B.BAL + ") t.amount refl amount) in
    plain-append (codes "START_TRANSACTION READ_WRITE\n" ++ find_text t ++ move_text t) (codes "; END_MODIFY\nEND_FOR END_FOR\nCOMMIT\n")
    (plain-append (codes "START_TRANSACTION READ_WRITE\n" ++ find_text t) (move_text t) (plain-append (codes "START_TRANSACTION READ_WRITE\n") (find_text t) refl finds) moves) refl

within : (accounts x : ℕ) → 0 < accounts → accounts ≤ 2000 → 1 + x % accounts < 2 ^ 64
within accounts x some small = let below = mod-lt x some in omega (arith, below, small)

transfers-plain : (accounts x made : ℕ) → 0 < accounts → accounts ≤ 2000 → is_plain (transfers_to accounts x made) ≡ true
unfolding transfers_to
transfers-plain accounts x zero some small = refl
transfers-plain accounts x (suc made) some small =
    let y = behind_transfers x made in
    plain-append (transfers_to accounts x made) (transfer_text (transfer_drawn accounts y)) (transfers-plain accounts x made some small)
    (transfer-plain (transfer_drawn accounts y) (within accounts (drawn y) some small) (within accounts (drawn (drawn y)) some small) (within 100 (drawn (drawn (drawn y))) (omega arith) (omega arith)))

all-transfers-plain : (accounts sessions : ℕ) → 0 < accounts → accounts ≤ 2000 → ArePlain (transfer_scripts_to accounts sessions)
unfolding transfer_scripts_to
all-transfers-plain accounts zero some small = tt
all-transfers-plain accounts (suc sessions) some small =
    plain-more (transfer_scripts_to accounts sessions) (transfer_script accounts sessions) (all-transfers-plain accounts sessions some small) (transfers-plain accounts (drawn_before accounts sessions) 25 some small)

pub stopless : (accounts : ℕ) → 2 ≤ accounts → accounts ≤ 2000 → AreStopless (scripts_of_runs accounts)
stopless accounts some small = (
  plain-scripts (texts_in First accounts) (first-plain accounts (omega (arith, small)), tt),
  (
    plain-scripts (texts_in Transfers accounts) (all-transfers-plain accounts 4 (omega (arith, some)) small),
    (plain-scripts (texts_in Last accounts) (refl, tt), tt),
  ),
)
