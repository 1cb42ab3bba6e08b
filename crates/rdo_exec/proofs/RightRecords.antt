-- The record of an action, over each sound map with which what is known agrees.
use Rattle.std.proofs.Common.{◌≡◌, inl, inr, ℕ, false, List, [], ◌∷◌, Option, Some, None, Result, Ok, Err, refl, sym, ap, subst, ◌∙◌}
use Rattle.std.specs.List.{All}
use Rattle.std.proofs.lemmas.List.Elements.{recursion_from_All}
use Rattle.rdb_types.specs.declared.keys.Dbkey.{Dbkey}
use Rattle.rdo_ast.specs.declared.reply.Reply.{Reply}
use Rattle.rdo_ast.specs.declared.reply.Reply.TheVariants as r
use Rattle.rdo_ast.specs.declared.reply.Standing.{Standing}
use Rattle.rdo_ast.specs.Tree.{Act, Uttered, perform, said}
use Rattle.rdb_meaning.specs.declared.tables.Tables.{Tables}
use Rattle.rdb_meaning.specs.Checks.{Refusal}
use Rattle.rdb_meaning.specs.Execution.{world, Ran, ran, refused, astray, done}
use Rattle.rdb_meaning.specs.Meaning.{means, unless, after_running, act_refusal, standing_for, Does}
use Rattle.rdb_meaning.specs.Usual.{is_refusal_of_means}
use Rattle.line_view.specs.declared.need.Need.{Need}
use Rattle.line_view.specs.Knowledge.{Knowledge, Lines, IsInOrder, Agrees}
use Rattle.line_view.specs.Writes.{laid_all}
use Rattle.line_view.specs.Stops.{Lacks}
use Rattle.catalog.specs.declared.reading.Catalog.{Catalog}
use Rattle.sound_changes.specs.Standing.{IsSoundAs}
use Rattle.sound_changes.proofs.Schemas.{catalogs_schema}
use Rattle.schema_alone.proofs.Same.{refusal_same}
use Rattle.view_stages.specs.Records.{Said, IsRightOver}
use Rattle.view_stages.proofs.Ending.{begins, act_barred}
use Rattle.sound_maps.specs.Maps.{IsSoundWith}
use Rattle.session_jobs.specs.declared.jobs.Found.{Found}
use Rattle.session_jobs.specs.Records.{DoesSo}
use Rattle.rdo_acts.specs.declared.stop.Refusal.{Refusal as ActRefusal}
use Rattle.rdo_acts.specs.declared.stop.Refusal.TheVariants.{Overflow, TooLong, Duplicate, Unwritten}
use Rattle.rdo_acts.specs.declared.acting.Outcome.{Outcome}
use Rattle.rdo_acts.specs.declared.acting.Outcome.TheVariants.{Done, Refused, Missing, Bad, NoMemory}
use Rattle.rdo_acts.specs.Ends.{reply_of}
use Rattle.rdo_acts.specs.Acted.{said_of, said_refused, IsRefusedOver, ComesOf}
use Rattle.std.specs.Prelude.{IfOk}
use Rattle.rdb_types.specs.declared.memory.NoMemory.{NoMemory as Failed}
use Rattle.rdo_exec.specs.Answers.{answer_of, answer_by}
use Rattle.rdo_exec.specs.Left.{unwritten}
use Rattle.rdo_exec.specs.Coming.{IsCatalogOfKnown, Comes}
use Rattle.rdo_exec.proofs.Answered.{says_nothing, answer_comes}
use Rattle.rdo_exec.proofs.Needs.{named_once}
use Rattle.rdo_exec.specs.Acted.{found_refused, IsFoundOf}

-- ---- the standing that an action leaves, whatever it is answered

left_ran : (x : Ran) (t : Tables) (behind : Standing) (choices : List Dbkey) (reply : Reply) (after : Tables) (left : Standing) (rest : List Dbkey) →
    after_running x t behind choices ≡ means reply after left rest → behind ≡ left
left_ran (ran w) t behind choices reply after left rest h = cc
left_ran (refused why keys) t behind choices reply after left rest h = cc
left_ran astray t behind choices reply after left rest h = cc

left_unless : (o : Refusal) (x : Ran) (t : Tables) (behind : Standing) (choices : List Dbkey) (reply : Reply) (after : Tables) (left : Standing) (rest : List Dbkey) →
    unless o t behind choices (after_running x t behind choices) ≡ means reply after left rest → behind ≡ left
left_unless (Some why) x t behind choices reply after left rest h = cc
left_unless None x t behind choices reply after left rest h = left_ran x t behind choices reply after left rest h

pub left_is : (word : List ℕ) (a : Act) (standing : Standing) (choices : List Dbkey) (t : Tables) (reply : Reply) (after : Tables) (left : Standing) →
    Does word standing (said (perform a)) choices t reply after left → standing_for a standing ≡ left
left_is word a standing choices t reply after left does =
    left_unless (act_refusal a standing t) (done a t [] (world t choices [])) t (standing_for a standing) choices reply after left [] does

-- ---- by a catalog

module _ (word : List ℕ) (standing : Standing) (a : Act) (c : Catalog) (known : Knowledge) (behind : Standing) (decodes : IsCatalogOfKnown known c) (is : behind ≡ standing_for a standing) where
  abbrev item : Uttered
  item = said (perform a)

  -- a sound map has this catalog
  sound_as : (all : Lines) (t : Tables) → IsSoundWith all t → Agrees known all → IsSoundAs all c t
  sound_as all t sound agrees = begins known c all t sound.0 agrees (decodes all agrees) sound.1 sound.2

  same_refusal : (all : Lines) (t : Tables) → IsSoundAs all c t → act_refusal a standing c.tables ≡ act_refusal a standing t
  same_refusal all t whole = refusal_same c.tables t (catalogs_schema all c t whole.are) a standing

  does_so : (x : Said) (all : Lines) (t : Tables) → IsInOrder (laid_all x.writes all) → IsRightOver word standing (perform a) x all t →
      DoesSo IsSoundWith word standing (record { item = item; choices = x.choices; reply = x.reply; behind = behind; writes = x.writes }) all t
  does_so x all t sorted right = record {
    then = right.after;
    does = subst (λ (s : Standing). Does word standing item x.choices t x.reply right.after s) (sym (left_is word a standing x.choices t x.reply right.after right.left right.does) ∙ sym is) right.does;
    stands = (sorted, right.sound, right.tables);
  }

  -- it is refused before it is done
  pub barred : (reply : Reply) → act_refusal a standing c.tables ≡ Some reply → Comes word standing item known (answer_of reply behind)
  barred reply refuses = answer_comes word standing item known reply behind (λ all t sound agrees.
      let whole = sound_as all t sound agrees in
      does_so (record { choices = []; reply = reply; writes = [] }) all t sound.0
      (act_barred c word standing a reply all t (sym (same_refusal all t whole) ∙ refuses) whole))

  module _ (free : act_refusal a standing c.tables ≡ None) where
    -- it is refused on the way
    refused_on : (o : Option Reply) (given : List Dbkey) → ((reply : Reply) → o ≡ Some reply → is_refusal_of_means reply ≡ false) →
        ((all : Lines) (t : Tables) → Agrees known all → IsSoundAs all c t → IsRefusedOver o given a known c all t) → Comes word standing item known (found_refused o given behind)
    refused_on None given usual h = record {
      usual = tt;
      once = tt;
      over = λ all t sound agrees. unwritten a c refl (decodes all agrees) (h all t agrees (sound_as all t sound agrees));
    }
    refused_on (Some reply) given usual h = record {
      usual = usual reply refl;
      once = tt;
      over = λ all t sound agrees. let whole = sound_as all t sound agrees in
          does_so (said_refused reply given) all t sound.0 (h all t agrees whole word standing (sym (same_refusal all t whole) ∙ free));
    }

    usual_reply : (refusal : ActRefusal) (reply : Reply) → reply_of refusal ≡ Some reply → is_refusal_of_means reply ≡ false
    usual_reply Overflow reply h = let e : r.Overflow ≡ reply = cc in ap is_refusal_of_means (sym e)
    usual_reply TooLong reply h = let e : r.TooLong ≡ reply = cc in ap is_refusal_of_means (sym e)
    usual_reply (Duplicate name) reply h = let e : r.Duplicate name.now ≡ reply = cc in ap is_refusal_of_means (sym e)
    usual_reply (Unwritten why) reply h = cc

    -- what a job comes to by what comes of its action
    pub comes_of : (outcome : Outcome) (f : Found) → IsFoundOf outcome known behind f → ((all : Lines) (t : Tables) → Agrees known all → IsSoundAs all c t → ComesOf outcome a known c all t) →
        Comes word standing item known f
    comes_of (Done acted) f so h = subst (λ (x : Found). Comes word standing item known x) (sym so) (record {
      usual = refl;
      once = tt;
      over = λ all t sound agrees. let whole = sound_as all t sound agrees in
          let right = h all t agrees whole word standing (sym (same_refusal all t whole) ∙ free) in
          does_so (said_of acted) all t (right.1).sorted right.0;
    })
    comes_of (Refused refusal given) f (inl so) h = subst (λ (x : Found). Comes word standing item known x) (sym so) (refused_on (reply_of refusal) given (usual_reply refusal) h)
    comes_of (Refused refusal given) f (inr so) h = says_nothing word standing item known f so
    comes_of (Missing needs) f so h = subst (λ (x : Found). Comes word standing item known x) (sym so.is) (record {
      usual = tt;
      once = named_once known so.next so.later so.ahead;
      over = λ all t sound agrees. recursion_from_All (Lacks known) (so.next ∷ so.later)
          (subst (λ (ns : List Need). All (Lacks known) ns) so.all (h all t agrees (sound_as all t sound agrees)));
    })
    comes_of (Bad key) f so h = subst (λ (x : Found). Comes word standing item known x) (sym so) (record { usual = tt; once = tt; over = λ all t sound agrees. h all t agrees (sound_as all t sound agrees) })
    comes_of NoMemory f so h = says_nothing word standing item known f so

-- the same, where memory may have failed
pub barred_by : (word : List ℕ) (standing : Standing) (a : Act) (c : Catalog) (known : Knowledge) → IsCatalogOfKnown known c → (reply : Reply) (copied : Result Standing Failed) → IfOk copied (λ left. left ≡ standing_for a standing) → act_refusal a standing c.tables ≡ Some reply →
    Comes word standing (said (perform a)) known (answer_by (Ok reply) copied)
barred_by word standing a c known decodes reply (Ok left) is refuses = barred word standing a c known left decodes is reply refuses
barred_by word standing a c known decodes reply (Err failed) is refuses = record { usual = tt; once = tt; over = λ all t sound agrees. tt }
