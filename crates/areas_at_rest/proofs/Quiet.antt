-- Runs that only read, one after another.
use Rattle.std.proofs.Common.{◌≡◌, ◌≤◌, ◌+◌, ◌-◌, ℕ, List, IsTrue, Result, Ok, Err, sym, ap, subst, arith}
use Rattle.std.specs.Prelude.{is_err, IsErrOf}
use Rattle.rdb_types.specs.declared.file.FileId.{FileId}
use Rattle.rdb_outside.specs.Disk.{Image, View, Counts, Keeps, OnlyReads}
use Rattle.rdb_outside.specs.Causes.{Rose}
use Rattle.rdb_outside.specs.Runs.{then_reads, one_call}
use Rattle.line_moves.proofs.Runs.{still_tells}
use Rattle.line_opening.proofs.Passed.{image_same}
use Rattle.line_opening.specs.declared.fault.OpeningFault.{OpeningFault}
use Rattle.line_opening.specs.declared.fault.OpeningFault.TheVariants.{Failed, NoMemory, Bad}
use Rattle.line_view.specs.Knowledge.{Lines}
use Rattle.lines_at_rest.specs.declared.reading.FaultyPages.{FaultyPages}
use Rattle.lines_at_rest.specs.declared.reading.RestReading.{RestReading}
use Rattle.lines_at_rest.specs.Left.{IsReadAs, IsPageSlot, AllPass}
use Rattle.page_faults.specs.Checks.{Passes}
use Rattle.areas_at_rest.specs.Runs.{IsQuiet, AtRest}

pub done : {T : Type 0} {faulty : FaultyPages} (old new : View) (x : T) → OnlyReads old new → IsQuiet faulty old new (Ok x)
done old new x reads = record { reads = reads; failed = λ is. absurd (let no : ⊥ = cc in no); refused = λ file slot is. absurd (let no : ⊥ = cc in no); bad = λ file slot is. absurd (let no : ⊥ = cc in no) }

pub want : {T : Type 0} {faulty : FaultyPages} (old new : View) → OnlyReads old new → IsQuiet {T = T} faulty old new (Err NoMemory)
want old new reads = record { reads = reads; failed = λ is. absurd (let no : ⊥ = cc in no); refused = λ file slot is. absurd (let no : ⊥ = cc in no); bad = λ file slot is. absurd (let no : ⊥ = cc in no) }

-- a run that stops
pub stopped : {T U : Type 0} {faulty : FaultyPages} (old new : View) (fault : OpeningFault) → IsQuiet {T = T} faulty old new (Err fault) → IsQuiet {T = U} faulty old new (Err fault)
stopped old new fault q = record {
  reads = q.reads;
  failed = λ is. q.failed (let same : fault ≡ Failed = cc in ap Err same);
  refused = λ file slot is. q.refused file slot (let same : fault ≡ Bad file slot = cc in ap Err same);
  bad = λ file slot is. q.bad file slot (let same : fault ≡ Bad file slot = cc in ap Err same);
}

fewer : (a b c : ℕ) → a ≤ b → Rose b c → Rose a c
fewer a b c le rose = omega (arith, le, rose)

-- behind another
pub then : {T : Type 0} {faulty : FaultyPages} (old mid new : View) (result : Result T OpeningFault) → OnlyReads old mid → IsQuiet faulty mid new result → IsQuiet faulty old new result
then old mid new result reads q = record {
  reads = then_reads old mid new reads q.reads;
  failed = λ is. fewer old.faults mid.faults new.faults reads.no_fewer (q.failed is);
  refused = q.refused;
  bad = λ file slot is t. subst (λ (image : Image). Passes file.number (slot + 1) (image file slot) → ⊥) (image_same old mid reads t) (q.bad file slot is (still_tells old mid reads.told t));
}

-- what is said of the map behind reads, was so before
pub at_rest : (old mid : View) (held : RestReading) (P : Lines → Type 0) → OnlyReads old mid → AtRest mid held P → AtRest old held P
at_rest old mid held P reads rest = λ t left so groups lines lays stands.
    rest (still_tells old mid reads.told t) left (subst (λ (image : Image). IsReadAs held.faulty image left) (sym (image_same old mid reads t)) so) groups lines lays stands

-- a call that fails
pub failed_call : {T U E : Type 0} {faulty : FaultyPages} (old mid new : View) (result : Result U E) (e : E) → OnlyReads old mid → Counts mid new result → (IsTrue mid.tells → Keeps mid new) → result ≡ Err e → IsQuiet {T = T} faulty old new (Err Failed)
failed_call old mid new result e reads counts keeps is = record {
  reads = one_call old mid new result reads counts keeps;
  failed = λ _. fewer old.faults mid.faults new.faults reads.no_fewer (counts.cause (ap is_err is));
  refused = λ file slot bad. absurd (let no : ⊥ = cc in no);
  bad = λ file slot bad. absurd (let no : ⊥ = cc in no);
}

-- faults that rose later
pub rose_behind : (old mid new : View) → OnlyReads old mid → Rose mid.faults new.faults → Rose old.faults new.faults
rose_behind old mid new reads rose = fewer old.faults mid.faults new.faults reads.no_fewer rose

-- ---- where all pages pass, no page is refused

passes_there : (image : Image) → AllPass image → (file : FileId) (slot : ℕ) → IsPageSlot file slot → Passes file.number (slot + 1) (image file slot)
passes_there image all file slot is =
    let back : slot + 1 - 1 ≡ slot = omega arith in
    subst (λ (s : ℕ). Passes file.number (slot + 1) (image file s)) back
    (subst (λ (f : FileId). Passes file.number (slot + 1) (image f (slot + 1 - 1))) (sym is.is_area) (all file.number (slot + 1) is.number is.page))

pub none_refused : {T : Type 0} {faulty : FaultyPages} (old new : View) (result : Result T OpeningFault) → IsQuiet faulty old new result → IsTrue old.tells → AllPass old.content → (file : FileId) (slot : ℕ) → IsErrOf result (Bad file slot) → ⊥
none_refused old new result q t all file slot is = q.bad file slot is t (passes_there old.content all file slot (q.refused file slot is).1)

pub still_pass : (old mid : View) → OnlyReads old mid → IsTrue old.tells → AllPass old.content → AllPass mid.content
still_pass old mid reads t all = subst AllPass (sym (image_same old mid reads t)) all
