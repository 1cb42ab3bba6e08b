-- Maps that are alike where needs guard, behind writes of the owner and of others.
use Rattle.std.proofs.Common.{◌≡◌, ℕ, Bool, true, false, cond, ◌==◌, List, [], ◌∷◌, ◌++◌, Option, Some, None, T, refl, sym, ap, subst, ◌∙◌}
use Rattle.std.specs.Prelude.{is_some}
use Rattle.std.specs.Ordering.{is_eq}
use Rattle.std.specs.declared.cmp.Ordering.TheVariants.{Less, Equal, Greater}
use Rattle.std.specs.FinMap.Entries.{is_sorted-put, is_sorted-where_key}
use Rattle.std.proofs.lemmas.Bool.{eqb-true}
use Rattle.rdb_types.specs.declared.keys.Dbkey.{Dbkey}
use Rattle.rdb_types.specs.Order.{dbkey_order}
use Rattle.rdb_types.specs.OrderLaws.{dbkey_total, same_dbkey}
use Rattle.lock_needs.specs.declared.need.Need.{Need}
use Rattle.line_view.specs.declared.writes.Write.{Write}
use Rattle.line_view.specs.Knowledge.{Knowledge, Lines, IsInOrder, Agrees, line_in, lines_in, keys_of, laid}
use Rattle.line_view.specs.Held.{written}
use Rattle.line_view.specs.Writes.{laid_all}
use Rattle.line_view.proofs.FullMap.{laid_found, other_area, keys_written}
use Rattle.lock_tree_laws.specs.Forest.{no_conflict}
use Rattle.rdb_account.specs.AskedFor.{area_node}
use Rattle.kept_apart.specs.Guards.{line_node, is_guarded, may_write, AreOwn}
use Rattle.kept_apart.specs.Alike.{AreAlike, IsGuarded, GuardsMore}
use Rattle.kept_apart.proofs.Apart.{guarded-apart, area-guards, guarded-grown}

-- ---- an equivalence

pub alike-refl : (got : List Need) (a : Lines) → AreAlike got a a
alike-refl got a = record { line = λ key g. refl; area = λ area g. refl }

pub alike-sym : (got : List Need) (a b : Lines) → AreAlike got a b → AreAlike got b a
alike-sym got a b h = record { line = λ key g. sym (h.line key g); area = λ area g. sym (h.area area g) }

pub alike-trans : (got : List Need) (a b c : Lines) → AreAlike got a b → AreAlike got b c → AreAlike got a c
alike-trans got a b c h k = record { line = λ key g. h.line key g ∙ k.line key g; area = λ area g. h.area area g ∙ k.area area g }

-- who needs more, asks more
pub alike-fewer : (few more : List Need) (a b : Lines) → GuardsMore few more → AreAlike more a b → AreAlike few a b
alike-fewer few more a b m h = record { line = λ key g. h.line key (m (line_node key) g); area = λ area g. h.area area (m (area_node area) g) }

pub alike-grown : (got more : List Need) (a b : Lines) → AreAlike (got ++ more) a b → AreAlike got a b
alike-grown got more a b h = alike-fewer got (got ++ more) a b (λ n g. guarded-grown got more n g) h

-- ---- views

pub alike-agrees : (got : List Need) (known : Knowledge) (a b : Lines) → AreAlike got a b → IsGuarded got known → Agrees known a → Agrees known b
alike-agrees got known a b h g k = record {
  line = λ key what e. k.line key what e ∙ h.line key (g.line key what e);
  area = λ area keys e. k.area area keys e ∙ h.area area (g.area area keys e);
  within = k.within;
  free = λ room key e. sym (h.line key (g.room room key e)) ∙ k.free room key e;
  apart = k.apart;
}

pub guarded-more : (few more : List Need) (known : Knowledge) → GuardsMore few more → IsGuarded few known → IsGuarded more known
guarded-more few more known m g = record {
  line = λ key what e. m (line_node key) (g.line key what e);
  area = λ area keys e. m (area_node area) (g.area area keys e);
  room = λ room key e. m (line_node key) (g.room room key e);
}

-- ---- order

true_from_T : (b : Bool) → T b → b ≡ true
true_from_T true h = refl
true_from_T false h = absurd h

pub laid-in-order : (key : Dbkey) (image : Option (List ℕ)) (lines : Lines) → IsInOrder lines → IsInOrder (laid key image lines)
laid-in-order key (Some image) lines h = true_from_T _ (is_sorted-put dbkey_order dbkey_total key image lines (subst T (sym h) tt))
laid-in-order key None lines h = true_from_T _ (is_sorted-where_key dbkey_order _ lines (subst T (sym h) tt))

pub laid-all-in-order : (writes : List Write) (lines : Lines) → IsInOrder lines → IsInOrder (laid_all writes lines)
laid-all-in-order [] lines h = h
laid-all-in-order (w ∷ ws) lines h = laid-all-in-order ws (laid w.key w.image lines) (laid-in-order w.key w.image lines h)

-- ---- one write over both

keys-alike : (got : List Need) (key : Dbkey) (image : Option (List ℕ)) (a b : Lines) → IsInOrder a → IsInOrder b → AreAlike got a b →
    (area : ℕ) → is_guarded got (area_node area) ≡ true → (t : Bool) → (key.area == area) ≡ t →
    keys_of (lines_in area (laid key image a)) ≡ keys_of (lines_in area (laid key image b))
keys-alike got key image a b oa ob h area g false e =
    ap keys_of (other_area key image area a e) ∙ (h.area area g ∙ sym (ap keys_of (other_area key image area b e)))
keys-alike got key image a b oa ob h area g true e =
    let own : key.area ≡ area = eqb-true key.area area e in
    subst (λ (x : ℕ). keys_of (lines_in x (laid key image a)) ≡ keys_of (lines_in x (laid key image b))) own
    (sym (keys_written key image a oa) ∙ (ap (written key (is_some image)) (h.area key.area (subst (λ (x : ℕ). is_guarded got (area_node x) ≡ true) (sym own) g)) ∙ keys_written key image b ob))

pub alike-laid : (got : List Need) (key : Dbkey) (image : Option (List ℕ)) (a b : Lines) → IsInOrder a → IsInOrder b → AreAlike got a b → AreAlike got (laid key image a) (laid key image b)
alike-laid got key image a b oa ob h = record {
  line = λ q g. laid_found q key image a ∙ (ap (cond (is_eq (dbkey_order q key)) image) (h.line q g) ∙ sym (laid_found q key image b));
  area = λ area g. keys-alike got key image a b oa ob h area g (key.area == area) refl;
}

pub alike-laid-all : (got : List Need) (writes : List Write) (a b : Lines) → IsInOrder a → IsInOrder b → AreAlike got a b → AreAlike got (laid_all writes a) (laid_all writes b)
alike-laid-all got [] a b oa ob h = h
alike-laid-all got (w ∷ ws) a b oa ob h =
    alike-laid-all got ws (laid w.key w.image a) (laid w.key w.image b) (laid-in-order w.key w.image a oa) (laid-in-order w.key w.image b ob) (alike-laid got w.key w.image a b oa ob h)

-- ---- a write of another

away : (key q : Dbkey) → (q ≡ key → ⊥) → is_eq (dbkey_order q key) ≡ false
away key q other = elim (dbkey_order q key) as (λ r. dbkey_order q key ≡ r → is_eq r ≡ false) [
  | Less ↦ λ p. refl
  | Equal ↦ λ p. absurd (other (same_dbkey q key p))
  | Greater ↦ λ p. refl
] refl

unlike : (a b : ℕ) → (a ≡ b → ⊥) → (a == b) ≡ false
unlike a b other = by (a == b) refl
  where
    by : (t : Bool) → (a == b) ≡ t → t ≡ false
    by true e = absurd (other (eqb-true a b e))
    by false e = refl

pub alike-beside : (mine theirs : List Need) (key : Dbkey) (image : Option (List ℕ)) (a : Lines) → no_conflict mine theirs ≡ true → may_write theirs (line_node key) ≡ true → AreAlike mine a (laid key image a)
alike-beside mine theirs key image a apart may = record {
  line = λ q g. sym (laid_found q key image a
      ∙ ap (λ t. cond t image (line_in q a)) (away key q (λ e. guarded-apart mine theirs (line_node key) apart (subst (λ (k : Dbkey). is_guarded mine (line_node k) ≡ true) e g) may)));
  area = λ area g. sym (ap keys_of (other_area key image area a
      (unlike key.area area (λ e. guarded-apart mine theirs (line_node key) apart (area-guards mine key (subst (λ (x : ℕ). is_guarded mine (area_node x) ≡ true) (sym e) g)) may))));
}

-- The law of isolation: what others write, with needs that don't conflict, leaves the map alike wherever needs guard.
pub alike-others : (mine theirs : List Need) (writes : List Write) (a : Lines) → no_conflict mine theirs ≡ true → AreOwn theirs writes → AreAlike mine a (laid_all writes a)
alike-others mine theirs [] a apart own = alike-refl mine a
alike-others mine theirs (w ∷ ws) a apart own =
    alike-trans mine a (laid w.key w.image a) (laid_all ws (laid w.key w.image a)) (alike-beside mine theirs w.key w.image a apart own.0) (alike-others mine theirs ws (laid w.key w.image a) apart own.1)

-- A view that is guarded, and agrees with the committed lines under its owner's writes, does so behind the writes of another.
pub view-stays : (mine theirs : List Need) (known : Knowledge) (own writes : List Write) (a : Lines) → IsInOrder a → no_conflict mine theirs ≡ true → AreOwn theirs writes → IsGuarded mine known →
    Agrees known (laid_all own a) → Agrees known (laid_all own (laid_all writes a))
view-stays mine theirs known own writes a order apart may guarded agrees =
    alike-agrees mine known (laid_all own a) (laid_all own (laid_all writes a))
    (alike-laid-all mine own a (laid_all writes a) order (laid-all-in-order writes a order) (alike-others mine theirs writes a apart may)) guarded agrees
