-- A backup rolled forward, through the steps.
use Rattle.std.proofs.Common.{◌≡◌, ℕ, ◌+◌, ◌≤◌, ◌<◌, Bool, true, false, cond, nat_lt, List, [], ◌∷◌, ◌++◌, length, Some, None, refl, sym, ◌∙◌, ap, arith, length-append}
use Rattle.std.proofs.lemmas.Bool.{lt-ltb}
use Rattle.journal_reading.specs.journal_scan.declared.group.Group.{Group}
use Rattle.journal_reading.specs.journal_scan.Whole.{AreWhole}
use Rattle.line_view.specs.Knowledge.{Lines}
use Rattle.stable_lines.specs.Journal.{lines_behind, next_number}
use Rattle.stable_lines.specs.Progress.{Flight, Progress, landed, lines_with, journal_with}
use Rattle.journal_reading.specs.rdb_outside.Disk.{Image}
use Rattle.stable_lines.specs.Facts.{PendingContents, Facts, StandsAs, as_committed, with_former, with_flight}
use Rattle.stable_lines.specs.Rolling.{laid_groups, groups_above, rolled, IsBehind, Rolls}

laid_more : (gs : List Group) (g : Group) (lines : Lines) → laid_groups (gs ++ g ∷ []) lines ≡ lines_behind g (laid_groups gs lines)
laid_more [] g lines = refl
laid_more (x ∷ gs) g lines = laid_more gs g (lines_behind x lines)

above_more : (last : ℕ) (gs : List Group) (g : Group) → last < g.number → groups_above last (gs ++ g ∷ []) ≡ groups_above last gs ++ g ∷ []
above_more last [] g lt = ap (λ b. cond b (g ∷ []) []) (lt-ltb last g.number lt)
above_more last (x ∷ gs) g lt = step (nat_lt last x.number) (groups_above last (gs ++ g ∷ [])) (above_more last gs g lt)
  where
    step : (b : Bool) (more : List Group) → more ≡ groups_above last gs ++ g ∷ [] → cond b (x ∷ more) more ≡ cond b (x ∷ groups_above last gs) (groups_above last gs) ++ g ∷ []
    step true more is = ap (λ l. x ∷ l) is
    step false more is = is

-- no group is above the last one
none_above : (last first : ℕ) (gs : List Group) → AreWhole first gs → first + length gs ≤ last + 1 → groups_above last gs ≡ []
none_above last first [] whole le = refl
none_above last first (g ∷ gs) whole le =
    let number : g.number ≡ first = whole.0.numbered in
    step (nat_lt last g.number) refl number (none_above last (first + 1) gs whole.1 (omega (arith, le)))
  where
    step : (b : Bool) → nat_lt last g.number ≡ b → g.number ≡ first → groups_above last gs ≡ [] → cond b (g ∷ groups_above last gs) (groups_above last gs) ≡ []
    step true is number rest = absurd (too_low last g.number first (length gs) is number (omega (arith, le)))
      where
        too_low : (a b n m : ℕ) → nat_lt a b ≡ true → b ≡ n → n + (m + 1) ≤ a + 1 → ⊥
        too_low a b n m lt at le = grind arith
    step false is number rest = rest

-- where the backup begins
pub behind_begins : (P : PendingContents) (now : Progress) (last : ℕ) → Facts P now → last + 1 ≡ next_number now.journal → IsBehind now.lines last now
behind_begins P now last facts is = record {
  below = omega (arith, is);
  gives = ap (λ (gs : List Group). laid_groups gs now.lines) (sym (none_above last now.journal.first now.journal.groups facts.journal.groups.whole (omega (arith, is))));
}

module _ (P : PendingContents) (now : Progress) (f : Flight) (is : now.flight ≡ Some f) (facts : Facts P now) (base : Lines) (last : ℕ) (was : IsBehind base last now) where
  -- the group in flight, where an image has it whole
  pub behind_flight : lines_with now f ≡ rolled base last (journal_with now f).groups
  behind_flight =
      let number : f.group.number ≡ next_number now.journal = (facts.flight f is).whole.numbered in
      let low : last < next_number now.journal = was.below in
      ap (λ (l : Lines). lines_behind f.group l) was.gives ∙ sym (laid_more (groups_above last now.journal.groups) f.group base) ∙ ap (λ (gs : List Group). laid_groups gs base) (sym (above_more last now.journal.groups f.group (omega (arith, number, low))))

  pub behind_lands : IsBehind base last (landed f now)
  behind_lands = record {
    below = (let long : length (now.journal.groups ++ f.group ∷ []) ≡ length now.journal.groups + 1 = length-append now.journal.groups (f.group ∷ []) in let low : last < next_number now.journal = was.below in omega (arith, long, low));
    gives = behind_flight;
  }

-- each image, with or without the group in flight
pub image_rolls : (P : PendingContents) (now : Progress) (base : Lines) (last : ℕ) (image : Image) → Facts P now → now.former ≡ None → IsBehind base last now → StandsAs now image → Rolls base last image
image_rolls P now base last image facts none was (as_committed kept) = record { classes = now.classes; lines = now.lines; journal = now.journal; kept = kept; gives = was.gives }
image_rolls P now base last image facts none was (with_former j is kept) = let bad : None ≡ Some j = sym none ∙ is in absurd (cc)
image_rolls P now base last image facts none was (with_flight f is kept) = record { classes = f.classes; lines = lines_with now f; journal = journal_with now f; kept = kept; gives = behind_flight P now f is facts base last was }
