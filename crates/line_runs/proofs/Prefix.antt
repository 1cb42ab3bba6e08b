-- What a crash leaves of the disk, of what the store over it had.
use Rattle.std.proofs.Common.{◌≡◌, ◌≤◌, ◌∙◌, ◌⊎◌, ℕ, List, [], sym, ap, subst, inl, inr, arith}
use Rattle.std.proofs.lemmas.Option.{none-some}
use Rattle.rdb_outside.specs.Disk.{Image, View, LeftNow, LeavesOnly, IsPending}
use Rattle.rdb_outside.specs.Moments.{each_slot, weaker}
use Rattle.rdb_account.specs.Events.{Event}
use Rattle.rdb_account.specs.Places.{Opening, place}
use Rattle.root_file.specs.declared.Root.{Root}
use Rattle.line_view.specs.Knowledge.{Lines}
use Rattle.stable_lines.specs.Journal.{Journal}
use Rattle.journal_anew.specs.Anew.{journal_in_use}
use Rattle.opened_store.specs.Opened.{IsLeft as IsAsLeft}
use Rattle.member_steps.specs.Standing.{HasLines}
use Rattle.store_shows.specs.Shows.{Leaves}
use Rattle.store_shows.proofs.Standing.{may_stand}
use Rattle.opened_store.specs.disk_store.Memory.{StoreMemory}
use Rattle.opened_store.specs.disk_store.Shown.{Shown}
use Rattle.disk_line_store.specs.Back.{IsBack, ShownBack}
use Rattle.opened_store.proofs.of_disk_store.Agreeing.{agreeing, shown-opens}
use Rattle.line_store.specs.Seats.{outside, in_flight}
use Rattle.line_store.specs.Shelves.{Clock, Shelf}
use Rattle.line_store.specs.Calls.{MayStand}
use Rattle.line_store.specs.Sights.{Sight, bare}
use Rattle.session_jobs.specs.Records.{Model}
use Rattle.session_stands.proofs.Seats.{outside-seat}
use Rattle.line_drive.specs.line_cluster.Deaths.{CountsFaults, RoseBy}
use Rattle.line_drive.specs.line_cluster.Sound.{HasImages, IsLeft, ShowsSpent}
use Rattle.line_runs.specs.Openings.{HasSpent}
use Rattle.line_runs.specs.Prefix.{GaveUp, HoldsAll, HoldsPrefix, StandsFor}

-- as the store has it
leaves-now : (v : View) (held : StoreMemory) (h : Shelf) → Shown v held h → (image : Image) (lines : Lines) → LeftNow v image → HasLines image lines → Leaves v h.clock.time lines
leaves-now v held h shown image lines left has = record { image = image; left = subst (λ (t : ℕ). v.left_since t image) (sym shown.lines.time) left; stands = has }

-- the time and the faults of a shelf that the store showed are the disk's
pub same-time : {former : View} (v : View) (sight : Sight) (back : IsBack former sight v) (h : Shelf) → sight.shows h → h.clock.time ≡ v.moment
same-time v sight back h shown = let it : ShownBack v back.held h = back.shows h shown in ap (λ (clock : Clock). clock.time) (sym it.clock) ∙ it.shown.lines.time

pub same-faults : {former : View} (v : View) (sight : Sight) (back : IsBack former sight v) (h : Shelf) → sight.shows h → h.clock.faults ≡ v.faults
same-faults v sight back h shown = let it : ShownBack v back.held h = back.shows h shown in ap (λ (clock : Clock). clock.faults) (sym it.clock) ∙ it.shown.lines.faults

-- the faults that the store counted are the disk's
pub harmed : {former : View} (v : View) (sight : Sight) → IsBack former sight v → (faults more : ℕ) → CountsFaults faults more sight → RoseBy more faults v.faults
harmed v sight back faults more k = subst (λ (n : ℕ). RoseBy more faults n) (same-faults v sight back k.shelf k.shown) k.rose

-- the numbers that it had used up, its root has
pub spent-root : {former : View} (v : View) (sight : Sight) → IsBack former sight v → ShowsSpent sight → HasSpent v
spent-root v sight back k content root p is =
    let it : ShownBack v back.held k.shelf = back.shows k.shelf k.shown in
    let below = it.shown.numbers.ceiling.pending content root p is in
    let promised : k.shelf.clock.promised ≡ back.held.numbers.ceiling = ap (λ (clock : Clock). clock.promised) (sym it.clock) ∙ it.shown.promised in
    omega (arith, k.spent, promised, below)

module _ {former : View} (M : Model) (o : Opening) (v : View) (events : List Event) (sight : Sight) (back : IsBack former sight v) where
  pub holds-prefix : HasImages M o sight events → HoldsPrefix M o v events
  holds-prefix has = record {
    tells = (back.shows has.shelf has.shown).shown.tells;
    now = λ image l.
        let its : ShownBack v back.held has.shelf = back.shows has.shelf has.shown in
        let it = shown-opens v back.held its.plain its.shown image (each_slot v image l) in
        record { lines = it.0; opens = it.1; stands = has.now it.0 (back.left has.shelf.clock.time it.0 (subst (λ (clock : Clock). Leaves v clock.time it.0) its.clock (leaves-now v back.held its.plain its.shown image it.0 l it.1.has))) };
    since = λ k c found image l lines is. has.since.each k c found lines (back.left c.moment lines (record { image = image; left = l; stands = is }));
    began = has.since.began;
    opened = has.since.opened;
    going = subst (λ (t : ℕ). has.since.began ≤ t) (same-time v sight back has.shelf has.shown) has.since.going;
    past = λ k c found. subst (λ (t : ℕ). c.moment ≤ t) (same-time v sight back has.shelf has.shown) (has.since.past k c found);
    later = has.since.later;
    opening = λ image l lines is. has.since.opening lines (back.left has.since.began lines (record { image = image; left = l; stands = is }));
    openable = back.opens has.since.began has.since.openable;
  }

  pub holds-all : IsLeft M o sight events → ((s : ℕ) → bare (sight.stand s) ≡ outside) → HoldsAll M o v events
  holds-all it rests = record {
    tells = its.shown.tells;
    each = λ image pending.
        let has = shown-opens v back.held its.plain its.shown image pending in
        (has.0, has.1, still has.0 (may_stand v its.shown.ledger its.plain its.shown.facts its.shown.lines image has.0 pending has.1.has));
  }
    where
      its : ShownBack v back.held it.shelf
      its = back.shows it.shelf it.shown

      idle : (s : ℕ) → its.plain.seat s ≡ outside
      idle s = outside-seat (its.plain.seat s) (sym (agreeing v back.held its.plain its.shown s) ∙ ap bare (back.stand s (outside-seat (sight.stand s) (rests s))))

      still : (lines : Lines) → MayStand its.plain lines → M lines (place o events).tables
      still lines (inl is) = subst (λ (x : Lines). M x (place o events).tables) (sym (is ∙ its.now)) it.stands
      still lines (inr (s, ws, flies, is)) = absurd (none-some ws (sym (ap in_flight (idle s)) ∙ flies))

-- ---- an opening that gave up

module _ (M : Model) (o : Opening) (v : View) (lines : Lines) (journal : Journal) (stands : M lines o.tables) where
  -- the database with its lines
  has-stood : (classes : ℕ → ℕ) (root : Root) (image : Image) → IsAsLeft v classes lines journal root image → IsPending v image ⊎ StandsFor M o.tables image
  has-stood classes root image (inl was) = inl was
  has-stood classes root image (inr (inl kept)) = inr (lines, record { classes = classes; journal = journal; kept = kept }, stands)
  has-stood classes root image (inr (inr kept)) = inr (lines, record { classes = classes; journal = journal_in_use root journal; kept = kept }, stands)

  pub gave-up-within : (new : View) (classes : ℕ → ℕ) (root : Root) → LeavesOnly v new (IsAsLeft v classes lines journal root) → GaveUp M o v new
  gave-up-within new classes root leaves = inl (weaker v new (IsAsLeft v classes lines journal root) (λ image. IsPending v image ⊎ StandsFor M o.tables image) (has-stood classes root) leaves)

  pub gave-up-behind : {former : View} (new : View) (sight : Sight) → IsBack former sight new → (h : Shelf) → sight.shows h → h.now ≡ lines → ((s : ℕ) → sight.stand s ≡ outside) → GaveUp M o v new
  gave-up-behind new sight back h shown now idle = inr (holds-all M o new [] sight back
      (record { shelf = h; shown = shown; stands = subst (λ (x : Lines). M x o.tables) (sym now) stands })
      (λ s. ap bare (idle s)))
