-- Laying the same writes again, over what a stop left.
use Rattle.std.proofs.Common.{◌≡◌, ℕ, zero, suc, Bool, true, false, cond, not, T, List, [], ◌∷◌, map, take, Option, Some, None, ◌⊎◌, inl, inr, ⊎_elim, refl, sym, ◌∙◌, ap, subst}
use Rattle.std.specs.Ordering.{is_eq}
use Rattle.std.specs.FinMap.Entries.{same_entries, is_sorted-put, is_sorted-where_key}
use Rattle.rdb_types.specs.declared.keys.Dbkey.{Dbkey}
use Rattle.rdb_types.specs.Order.{dbkey_order}
use Rattle.rdb_types.specs.OrderLaws.{dbkey_total, same_dbkey}
use Rattle.journal_scan.specs.declared.group.Group.{Group}
use Rattle.stable_lines.specs.Journal.{write_of, lines_behind}
use Rattle.line_view.specs.declared.writes.Write.{Write}
use Rattle.line_view.specs.Knowledge.{Lines, IsInOrder, line_in, laid}
use Rattle.line_view.specs.Writes.{laid_all}
use Rattle.line_view.proofs.FullMap.{laid_found}
use Rattle.line_view.proofs.Written.{laid_in_turn}
use Rattle.stable_lines.specs.Rolling.{laid_groups}
use Rattle.rolled_lines.specs.HalfLaid.{line_behind, HalfLaid, writes_of}

pub seen_behind : (key : Dbkey) (ws : List Write) (lines : Lines) → line_in key (laid_all ws lines) ≡ line_behind key ws (line_in key lines)
seen_behind key [] lines = refl
seen_behind key (w ∷ ws) lines = seen_behind key ws (laid w.key w.image lines) ∙ ap (λ what. line_behind key ws what) (laid_found key w.key w.image lines)

-- writes put a line, whatever it was
abbrev IsPut : Dbkey → List Write → Type 0
IsPut key ws = (v w : Option (List ℕ)) → line_behind key ws v ≡ line_behind key ws w

-- none of them is of this line
abbrev IsMissed : Dbkey → List Write → Type 0
IsMissed key [] = Unit {0}
IsMissed key (x ∷ ws) = (is_eq (dbkey_order key x.key) ≡ false) × IsMissed key ws

missed : (key : Dbkey) (ws : List Write) (w : Option (List ℕ)) → IsMissed key ws → line_behind key ws w ≡ w
missed key [] w none = refl
missed key (x ∷ ws) w none = ap (λ b. line_behind key ws (cond b x.image w)) none.0 ∙ missed key ws w none.1

missed_front : (key : Dbkey) (count : ℕ) (ws : List Write) → IsMissed key ws → IsMissed key (take count ws)
missed_front key zero ws none = tt
missed_front key (suc count) [] none = tt
missed_front key (suc count) (x ∷ ws) none = (none.0, missed_front key count ws none.1)

put_or_missed : (key : Dbkey) (ws : List Write) → IsPut key ws ⊎ IsMissed key ws
put_or_missed key [] = inr tt
put_or_missed key (x ∷ ws) = pick (put_or_missed key ws) (is_eq (dbkey_order key x.key)) refl
  where
    pick : IsPut key ws ⊎ IsMissed key ws → (b : Bool) → is_eq (dbkey_order key x.key) ≡ b → IsPut key (x ∷ ws) ⊎ IsMissed key (x ∷ ws)
    pick rest true here = inl (λ v w. ap (λ b. line_behind key ws (cond b x.image v)) here ∙ sym (ap (λ b. line_behind key ws (cond b x.image w)) here))
    pick rest false here = ⊎_elim (λ (p : IsPut key ws). inl (λ v w. p (cond (is_eq (dbkey_order key x.key)) x.image v) (cond (is_eq (dbkey_order key x.key)) x.image w))) (λ none. inr (here, none)) rest

-- writes, and behind some of them all of them
pub seen_again : (key : Dbkey) (count : ℕ) (ws : List Write) (what : Option (List ℕ)) → line_behind key ws (line_behind key (take count ws) what) ≡ line_behind key ws what
seen_again key count ws what = ⊎_elim (λ (p : IsPut key ws). p (line_behind key (take count ws) what) what)
    (λ none. ap (λ w. line_behind key ws w) (missed key (take count ws) what (missed_front key count ws none))) (put_or_missed key ws)

-- of two parts of the same writes, one behind the other is one of them
seen_parts : (key : Dbkey) (first second : ℕ) (ws : List Write) (what : Option (List ℕ)) → (count : ℕ) × (line_behind key (take second ws) (line_behind key (take first ws) what) ≡ line_behind key (take count ws) what)
seen_parts key first second ws what = ⊎_elim (λ (p : IsPut key (take second ws)). (second, p (line_behind key (take first ws) what) what)) (λ none. (first, missed key (take second ws) (line_behind key (take first ws) what) none)) (put_or_missed key (take second ws))

-- ---- a stop, and the same writes again

true_from_T : (b : Bool) → T b → b ≡ true
true_from_T true h = refl
true_from_T false h = absurd h

in_order : (ws : List Write) (lines : Lines) → IsInOrder lines → IsInOrder (laid_all ws lines)
in_order [] lines is = is
in_order (w ∷ ws) lines is = in_order ws (laid w.key w.image lines) (one w.key w.image is)
  where
    one : (key : Dbkey) (image : Option (List ℕ)) → IsInOrder lines → IsInOrder (laid key image lines)
    one key (Some image) is = true_from_T _ (is_sorted-put dbkey_order dbkey_total key image lines (subst T (sym is) tt))
    one key None is = true_from_T _ (is_sorted-where_key dbkey_order (λ x. not (is_eq (dbkey_order key x))) lines (subst T (sym is) tt))

pub stopped_again : (lines half more : Lines) (ws : List Write) → HalfLaid lines ws half → HalfLaid half ws more → HalfLaid lines ws more
stopped_again lines half more ws was is key =
    let a = was key in let b = is key in
    let both = seen_parts key a.0 b.0 ws (line_in key lines) in
    (both.0, b.1 ∙ ap (λ what. line_behind key (take b.0 ws) what) a.1 ∙ both.1)

pub begun_again : (lines half : Lines) (ws : List Write) → HalfLaid lines ws half → (key : Dbkey) → line_in key (laid_all ws half) ≡ line_in key (laid_all ws lines)
begun_again lines half ws was key =
    let a = was key in
    seen_behind key ws half ∙ ap (λ what. line_behind key ws what) a.1 ∙ seen_again key a.0 ws (line_in key lines) ∙ sym (seen_behind key ws lines)

-- the same map in the end
pub ends_same : (lines half : Lines) (ws : List Write) → IsInOrder lines → IsInOrder half → HalfLaid lines ws half → laid_all ws half ≡ laid_all ws lines
ends_same lines half ws sorted also was = same_entries dbkey_order dbkey_total same_dbkey (laid_all ws half) (laid_all ws lines) (subst T (sym (in_order ws half also)) tt) (subst T (sym (in_order ws lines sorted)) tt) (begun_again lines half ws was)

-- the lines behind groups are those behind their writes
pub after_writes : (groups : List Group) (lines : Lines) → laid_groups groups lines ≡ laid_all (writes_of groups) lines
after_writes [] lines = refl
after_writes (g ∷ gs) lines = after_writes gs (lines_behind g lines) ∙ sym (laid_in_turn (map write_of g.lines) (writes_of gs) lines)

pub groups_again : (lines half : Lines) (groups : List Group) → IsInOrder lines → IsInOrder half → HalfLaid lines (writes_of groups) half → laid_groups groups half ≡ laid_groups groups lines
groups_again lines half groups sorted also was = after_writes groups half ∙ ends_same lines half (writes_of groups) sorted also was ∙ sym (after_writes groups lines)
