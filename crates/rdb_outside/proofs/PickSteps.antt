-- One late write more, kept or not.
use Rattle.std.specs.Prelude.{ℕ, ◌+◌, ◌≡◌, ◌<◌, Bool, true, false, List, [], ◌∷◌, ◌++◌, length, take, get_or, ◌==◌, ◌&&◌, if◌then◌else◌}
use Rattle.std.proofs.Common.{sym, ◌∙◌, ap}
use Rattle.rdb_types.specs.declared.file.FileId.{FileId}
use Rattle.rdb_types.specs.File.{is_same}
use Rattle.rdb_outside.specs.declared.event.Event.{Event}
use Rattle.rdb_outside.specs.Failing.{may_be_left, is_settled, kept}
use Rattle.rdb_outside.specs.Memory.{put, written, content_of}
use Rattle.rdb_outside.specs.Picks.{over, picked, late_writes}
use Rattle.rdb_outside.proofs.Picks.{content_push}
use Rattle.rdb_outside.proofs.Crashes.{crash_skip, picked_next}

abbrev pub IsPicked : List Event → List Event → (ℕ → Bool) → Type 0
IsPicked log h keep = (f : FileId) (i : ℕ) → content_of log f i ≡ picked h keep f i

pub takes : (keep : ℕ → Bool) (log h : List Event) (k : ℕ) (d : Event) → k < length h → may_be_left (get_or h k d).effect ≡ true → is_settled (get_or h k d).effect ≡ false
    → keep (late_writes (take k h)) ≡ true → IsPicked log (take k h) keep → IsPicked (log ++ kept (get_or h k d) ∷ []) (take (k + 1) h) keep
takes keep log h k d less is plain picks same f i =
    let e = get_or h k d in
    content_push log (kept e) f i
    ∙ ap (λ x. if is_same f e.file && (i == e.slot) then written e else x) (same f i)
    ∙ ap (λ b. (if b then put e.file e.slot (written e) (picked (take k h) keep) else picked (take k h) keep) f i) (sym picks)
    ∙ sym (ap (λ m. m f i) (picked_next keep h k d less is plain))

pub leaves : (keep : ℕ → Bool) (log h : List Event) (k : ℕ) (d : Event) → k < length h → may_be_left (get_or h k d).effect ≡ true → is_settled (get_or h k d).effect ≡ false
    → keep (late_writes (take k h)) ≡ false → IsPicked log (take k h) keep → IsPicked log (take (k + 1) h) keep
leaves keep log h k d less is plain picks same f i =
    let e = get_or h k d in
    same f i
    ∙ ap (λ b. (if b then put e.file e.slot (written e) (picked (take k h) keep) else picked (take k h) keep) f i) (sym picks)
    ∙ sym (ap (λ m. m f i) (picked_next keep h k d less is plain))

pub passes_by : (keep : ℕ → Bool) (log h : List Event) (k : ℕ) (d : Event) → k < length h → may_be_left (get_or h k d).effect ≡ false → is_settled (get_or h k d).effect ≡ false
    → IsPicked log (take k h) keep → IsPicked log (take (k + 1) h) keep
passes_by keep log h k d less is plain same f i = same f i ∙ sym (ap (λ c. over keep 0 c.late c.stable f i) (crash_skip h k d less is plain))

pub picked_of : (h : List Event) (keep : ℕ → Bool) (a b : List Event) → a ≡ b → IsPicked b h keep → IsPicked a h keep
picked_of h keep a b same was f i = ap (λ l. content_of l f i) same ∙ was f i
