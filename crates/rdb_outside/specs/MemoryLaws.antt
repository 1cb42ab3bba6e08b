-- What reads give is one of the images.
use Rattle.std.specs.Prelude.{ℕ, ◌≡◌, ◌≤◌, Bool, true, false, List, [], ◌∷◌, length, ◌==◌, ◌&&◌, if◌then◌else◌, refl}
use Rattle.std.proofs.Common.{inl, inr, sym, ◌∙◌, ap, subst, arith}
use Rattle.std.proofs.Math.Seq.{take-length}
use Rattle.std.proofs.lemmas.Bool.{and_parts}
use Rattle.rdb_types.specs.declared.file.FileId.{FileId}
use Rattle.rdb_types.specs.declared.file.FileKind.{FileKind}
use Rattle.rdb_types.specs.declared.file.FileKind.TheVariants.{Root, Area, Snap, Ruj, Aij, Backup, AijBackup}
use Rattle.rdb_outside.specs.declared.event.Effect.{Effect}
use Rattle.rdb_outside.specs.declared.event.Effect.TheVariants.{Passed, Written, Lost, Settled}
use Rattle.rdb_outside.specs.declared.event.Event.{Event}
use Rattle.rdb_types.specs.File.{is_same, rank}
use Rattle.rdb_outside.specs.Memory.{State, written, adds, after_call, after, zeroed, content_of, IsImage, memory_view}

pub eq_from : (a b : ℕ) → (a == b) ≡ true → a ≡ b
eq_from a b h = grind arith

abbrev of_rank : ℕ → FileKind
of_rank n = if n == 0 then Root else if n == 1 then Area else if n == 2 then Snap else if n == 3 then Ruj else if n == 4 then Aij else if n == 5 then Backup else AijBackup

rank_back : (k : FileKind) → of_rank (rank k) ≡ k
rank_back Root = refl
rank_back Area = refl
rank_back Snap = refl
rank_back Ruj = refl
rank_back Aij = refl
rank_back Backup = refl
rank_back AijBackup = refl

same_rank : (a b : FileKind) → rank a ≡ rank b → a ≡ b
same_rank a b h = sym (rank_back a) ∙ ap of_rank h ∙ rank_back b

pub same_file : (a b : FileId) → is_same a b ≡ true → a ≡ b
same_file a b h =
    let both = and_parts (rank a.kind == rank b.kind) (a.number == b.number) h in
    let kinds = same_rank a.kind b.kind (eq_from _ _ both.0) in
    let numbers = eq_from a.number b.number both.1 in
    join a b kinds numbers
  where
    join : (a b : FileId) → a.kind ≡ b.kind → a.number ≡ b.number → a ≡ b
    join a b k n = let make : FileKind → ℕ → FileId = λ kind number. record { kind = kind; number = number } in ap (λ kind. make kind a.number) k ∙ ap (λ number. make b.kind number) n

-- A slot may have after a crash what reads give.
call_pends : (w : Effect) (e : Event) (s : State) → ((f : FileId) (i : ℕ) → s.pending f i (s.content f i)) → (f : FileId) (i : ℕ) → (after_call w e s).pending f i ((after_call w e s).content f i)
call_pends Passed e s was f i = was f i
call_pends Written e s was f i = at (is_same f e.file && (i == e.slot)) refl
  where
    at : (b : Bool) → (is_same f e.file && (i == e.slot)) ≡ b → adds e.file e.slot (written e) s.pending f i (if b then written e else s.content f i)
    at true is = let both = and_parts (is_same f e.file) (i == e.slot) is in inr (same_file f e.file both.0, eq_from i e.slot both.1, refl)
    at false is = inl (was f i)
call_pends Lost e s was f i = inl (was f i)
call_pends Settled e s was f i = refl

pends : (s : State) (log : List Event) → ((f : FileId) (i : ℕ) → s.pending f i (s.content f i)) → (f : FileId) (i : ℕ) → (after s log).pending f i ((after s log).content f i)
pends s [] was = was
pends s (e ∷ log) was = pends (after_call e.effect e s) log (call_pends e.effect e s was)

pub content_is_image : (log : List Event) → IsImage log (content_of log)
content_is_image log = pends zeroed log (λ f i. refl)

pub content_left : (log : List Event) (faults t : ℕ) → t ≤ length log → (memory_view log faults).left_since t (memory_view log faults).content
content_left log faults t le = record { calls = length log; from = le; made = omega arith; is_image = subst (λ (l : List Event). IsImage l (content_of log)) (sym (take-length log)) (content_is_image log) }
