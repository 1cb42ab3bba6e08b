-- Where the store has a reader: it copies into a backup or not, and nothing else is under way.
use Rattle.std.proofs.Common.{◌≡◌, ℕ, ◌&&◌, ◌||◌, not, Bool, true, false, refl, sym, ap, ◌∙◌, arith, Option, Some, None, is_some}
use Rattle.std.proofs.lemmas.Bool.{false≢true}
use Rattle.std.proofs.lemmas.Option.{none-some, same_Some}
use Rattle.rdo_ast.specs.declared.reply.Standing.{Standing}
use Rattle.rdo_ast.specs.Tree.{Uttered, said, syntax_fault, invoke, start_read_only, start_read_write, commit, rollback, finish, back_up, perform, define_field, define_relation, define_index, delete_relation, delete_index}
use Rattle.rdo_ast.specs.Views.{uttered_of}
use Rattle.rdb_account.specs.Places.{backup_of, begins, leaves_none}
use Rattle.rdb_account.specs.Legal.{ends_by, ends_its_own}
use Rattle.line_view.specs.Knowledge.{Lines}
use Rattle.line_store.specs.Seats.{set_aside, in_flight, is_committing}
use Rattle.line_store.specs.Shelves.{seen_from}
use Rattle.session_states.specs.declared.stage.ReaderWork.TheVariants.{Due, Out, Copying}
use Rattle.session_states.specs.declared.stage.ReaderStage.{ReaderStage}
use Rattle.session_states.specs.declared.stage.ReaderStage.TheVariants.{Between, Working, Gathering}
use Rattle.session_states.specs.States.{copies_at, reader_item, seat_of_reader}
use Rattle.session_states.specs.Fits.{ReaderStageFits}

pub reader-idle : (number : Option ℕ) (start : Lines) → is_committing (seat_of_reader number start) ≡ false
reader-idle None start = refl
reader-idle (Some n) start = refl

pub reader-flies : (number : Option ℕ) (start : Lines) → in_flight (seat_of_reader number start) ≡ None
reader-flies None start = refl
reader-flies (Some n) start = refl

pub reader-aside : (number : Option ℕ) (start : Lines) → set_aside (seat_of_reader number start) ≡ 0
reader-aside None start = refl
reader-aside (Some n) start = refl

pub reader-sees : (number : Option ℕ) (start now : Lines) → seen_from (seat_of_reader number start) now ≡ start
reader-sees None start now = refl
reader-sees (Some n) start now = refl

-- ---- a statement that is an online backup

none-backed : (item : Uttered) → backup_of item ≡ None → is_some (backup_of item) ≡ true → ⊥
none-backed item none h = false≢true (sym (ap is_some none) ∙ h)

-- it leaves no transaction where it is refused
pub backup-leaves : (item : Uttered) → is_some (backup_of item) ≡ true → leaves_none item ≡ true
backup-leaves (syntax_fault line column) h = absurd (false≢true h)
backup-leaves (said (invoke text)) h = absurd (false≢true h)
backup-leaves (said start_read_only) h = absurd (false≢true h)
backup-leaves (said (start_read_write wait rs)) h = absurd (false≢true h)
backup-leaves (said commit) h = absurd (false≢true h)
backup-leaves (said rollback) h = absurd (false≢true h)
backup-leaves (said finish) h = absurd (false≢true h)
backup-leaves (said (back_up n)) h = refl
backup-leaves (said (perform a)) h = absurd (false≢true h)
backup-leaves (said (define_field n type)) h = absurd (false≢true h)
backup-leaves (said (define_relation n fs)) h = absurd (false≢true h)
backup-leaves (said (define_index d)) h = absurd (false≢true h)
backup-leaves (said (delete_relation n)) h = absurd (false≢true h)
backup-leaves (said (delete_index n)) h = absurd (false≢true h)

-- it is told by its number
pub backup-is : (item : Uttered) (n : ℕ) → backup_of item ≡ Some n → item ≡ said (back_up n)
backup-is (syntax_fault line column) n h = absurd (none-some n h)
backup-is (said (invoke text)) n h = absurd (none-some n h)
backup-is (said start_read_only) n h = absurd (none-some n h)
backup-is (said (start_read_write wait rs)) n h = absurd (none-some n h)
backup-is (said commit) n h = absurd (none-some n h)
backup-is (said rollback) n h = absurd (none-some n h)
backup-is (said finish) n h = absurd (none-some n h)
backup-is (said (back_up m)) n h = ap (λ (k : ℕ). said (back_up k)) (same_Some m n h)
backup-is (said (perform a)) n h = absurd (none-some n h)
backup-is (said (define_field m type)) n h = absurd (none-some n h)
backup-is (said (define_relation m fs)) n h = absurd (none-some n h)
backup-is (said (define_index d)) n h = absurd (none-some n h)
backup-is (said (delete_relation m)) n h = absurd (none-some n h)
backup-is (said (delete_index m)) n h = absurd (none-some n h)

-- nothing else ends its own transaction that doesn't end another's
pub own-none : (item : Uttered) → ends_by item ≡ false → backup_of item ≡ None → ends_its_own item ≡ false
own-none (syntax_fault line column) stays none = refl
own-none (said (invoke text)) stays none = refl
own-none (said start_read_only) stays none = refl
own-none (said (start_read_write wait rs)) stays none = refl
own-none (said commit) stays none = absurd (false≢true (sym stays))
own-none (said rollback) stays none = absurd (false≢true (sym stays))
own-none (said finish) stays none = refl
own-none (said (back_up n)) stays none = absurd (none-some n (sym none))
own-none (said (perform a)) stays none = refl
own-none (said (define_field n type)) stays none = refl
own-none (said (define_relation n fs)) stays none = refl
own-none (said (define_index d)) stays none = refl
own-none (said (delete_relation n)) stays none = refl
own-none (said (delete_index n)) stays none = refl

pub none-own : (item : Uttered) → ends_its_own item ≡ false → backup_of item ≡ None
none-own (syntax_fault line column) own = refl
none-own (said (invoke text)) own = refl
none-own (said start_read_only) own = refl
none-own (said (start_read_write wait rs)) own = refl
none-own (said commit) own = refl
none-own (said rollback) own = refl
none-own (said finish) own = refl
none-own (said (back_up n)) own = absurd (false≢true (sym own))
none-own (said (perform a)) own = refl
none-own (said (define_field n type)) own = refl
none-own (said (define_relation n fs)) own = refl
none-own (said (define_index d)) own = refl
none-own (said (delete_relation n)) own = refl
none-own (said (delete_index n)) own = refl

-- ---- what a reader's stage copies

abbrev MayGoOn : Bool → Uttered → Type 0
MayGoOn spoken item = (spoken || not (leaves_none item)) ≡ true

clash : (spoken leaves : Bool) → spoken ≡ false → leaves ≡ true → (spoken || not leaves) ≡ true → ⊥
clash spoken leaves silent starts may = false≢true (grind arith)

-- where the transaction goes on behind a refusal, nothing is copied
pub copies-none : (spoken : Bool) (stage : ReaderStage) (item : Uttered) → reader_item stage ≡ Some item → ReaderStageFits spoken stage → MayGoOn spoken item → copies_at stage ≡ None
copies-none spoken Between item is f may = refl
copies-none spoken (Working i Due) item is f may = refl
copies-none spoken (Working i Out) item is f may = refl
copies-none spoken (Working i Copying) item is f may =
    absurd (clash spoken (leaves_none item) f.0 (ap leaves_none (sym (same_Some (uttered_of i) item is)) ∙ backup-leaves (uttered_of i) f.1) may)
copies-none spoken (Gathering i n later place) item is f may = refl
