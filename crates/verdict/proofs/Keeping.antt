-- What the code keeps from line to line. A job that goes on is the lowest that can, so its next line is the one that
-- (a) chooses; where none does, the foremost place has the line chosen. After it is done, the places, the counts and
-- the sets tell of one line more. So line by line the order handed out is that of the definitions.
use Rattle.std.proofs.Common.{◌≡◌, ℕ, suc, ◌+◌, ◌-◌, ◌<◌, ◌≤◌, Bool, true, false, cond, List, [], ◌∷◌, ◌++◌, append-nil}
use Rattle.std.proofs.Common.{append_assoc, ◌⊎◌, inl, inr, ◌≢◌, refl, sym, ◌∙◌, ap, arith, is_some, unwrap_or, ltb}
use Rattle.std.proofs.Common.{length, get_or, replicate, length-append}
use Rattle.std.proofs.Math.Option.{Option, none, some}
use Rattle.std.specs.Bool.{then_some}
use Rattle.model.specs.Lists.{has, or_else}
use Rattle.model.specs.Sets.{empty, member}
use Rattle.model.specs.Line.{max_job}
use Rattle.model.specs.WellFormed.{WellFormed}
use Rattle.model.specs.Handed.{undone, going_on, lasting_next, handed}
use Rattle.model.specs.Board.{devices, board}
use Rattle.theory.specs.Outer.{plain_at}
use Rattle.theory.proofs.Tests.{clash}
use Rattle.theory.proofs.Lists.{has_none, left, left_one, left_every, among}
use Rattle.theory.proofs.Sets.{member_empty}
use Rattle.theory.proofs.Progress.{undone_has, Picked, stuck, goes, picked, never_stuck}
use Rattle.theory.proofs.LineByLine.{chosen, lines_after, lines_step, Stands, has_stands, goes_on_lem, more_new}
use Rattle.theory.proofs.LineByLine.{has_other}
use Rattle.theory.proofs.WellFormed.{no_held_in_morning}
use Rattle.theory.proofs.Morning.{handed_line_by_line}
use Rattle.verdict.specs.declared.waiting.Waiting.{Waiting}
use Rattle.verdict.specs.Waiting.{Choice}
use Rattle.verdict.specs.Waiting.{all_places, place_at, waits, arrived, foremost, goes_on, lasting_after, started_line}
use Rattle.verdict.specs.Waiting.{idle, tallied, scarce_below, counted, settled, choosing, passed, replaced}
use Rattle.verdict.proofs.Counts.{Counted, none_counted, one_counted}
use Rattle.verdict.proofs.Places.{Shows, Comes, shows_same, comes_if, goes_off, scarce_vacated, scarce_arrived}
use Rattle.verdict.proofs.Places.{shows_settled}
use Rattle.verdict.proofs.Standing.{Closed, closed_on, Beside, first_stands, stands_first, goes_at, place_below}
use Rattle.verdict.proofs.Standing.{apart, stayed_stands, next_stands, started_stands, lasting_stands}
use Rattle.verdict.proofs.Standing.{lower_still, beside_placed, placed_beside}
use Rattle.verdict.proofs.Choosing.{Accepted, Going, GoesNext, foremost_next}

-- a line goes next and all others that stand next wait at their places
pub record Chooses (p done places : List ℕ) (scarce : ℕ) (c : Choice) : Type 0 where
  pub going : Going p done c.line
  pub beside : Shows p (λ i. Stands p done i × (i ≢ c.line)) places c.others
  pub scarce_kept : c.others.scarce ≡ scarce

-- with line i going next if a job goes on
pub record Keeps (p done places counts : List ℕ) (wa : Waiting) (on : Bool) (i : ℕ) : Type 0 where
  pub closed : Closed p done
  pub going : on ≡ true → 1 ≤ left (among done) (length p) → Going p done i
  pub shows : Shows p (Beside p done on i) places wa
  pub counts_all : Counted p done counts wa.scarce
  pub rest : left (among done) (length p) + length done ≡ length p
  pub order : done ++ lines_after (left (among done) (length p)) p done ≡ handed p

-- where no job goes on, whatever line is named; where one does, its next line is named
pub keeps_if : {p done places counts : List ℕ} {wa : Waiting} (on : Bool) (i : ℕ) → Keeps p done places counts wa on i
    → Keeps p done places counts wa (is_some (then_some on i)) (unwrap_or (then_some on i) 0)
keeps_if true i k = k
keeps_if false i k = record {
  closed = k.closed;
  going = λ e l. clash false e refl;
  shows = shows_same k.shows (λ n t. (t.0, λ e. clash false e refl)) (λ n t. (t.0, λ e. clash false e refl));
  counts_all = k.counts_all;
  rest = k.rest;
  order = k.order;
}

none_waits : (scarce s : ℕ) → waits (idle scarce) s ≡ false
unfolding waits idle empty
none_waits scarce s = go (ltb s max_job)
  where
    go : (b : Bool) → cond b (member 0 s) (member 0 (s - max_job)) ≡ false
    go true = member_empty s
    go false = member_empty (s - max_job)

-- all lines are done
pub keeps_whole : {p done places counts : List ℕ} {wa : Waiting} {on : Bool} {i : ℕ}
    → Keeps p done places counts wa on i → length p ≤ length done → done ≡ handed p
unfolding lines_after
keeps_whole {p} {done} k full =
    let z : left (among done) (length p) ≡ 0 = omega (arith, k.rest) in
    sym (append-nil done) ∙ (rw z at k.order)

module _ {p : List ℕ} (ok : Accepted p) where
  abbrev w : WellFormed board p
  w = ok.formed

  -- ---- at the start

  -- line 1 alone stands next, so it is the one chosen
  first_goes : 0 < length p → Going p [] 0
  unfolding chosen has
  first_goes h = record {
    stands = first_stands w h;
    choice = go (or_else (going_on p (undone p [])) (lasting_next p (undone p []))) (picked p (undone p []));
    low = λ k s l. omega arith;
  }
    where
      go : (o : Option ℕ) → Picked p (undone p []) o → o ≡ some 0
      go none (stuck f) =
          absurd (never_stuck board p w ok.no_two ok.no_circle [] f 0 (undone_has p [] 0 h refl))
      go (some i) (goes j s c) = ap {B = Option ℕ} some (stands_first w i (has_stands p [] i s))

  pub keeps_first : Keeps p [] (replicate all_places 0) (tallied p (length p))
      (idle (scarce_below (tallied p (length p)) devices)) true 0
  unfolding idle
  keeps_first = record {
    closed = λ k i l h b. has_none i h;
    going = λ e h. first_goes (omega (arith, left_every (length p)));
    shows = record {
      long = refl;
      there = λ i s. absurd (s.1 refl (stands_first w i s.0));
      only = λ s l e. clash (waits (idle scarce) s) e (none_waits scarce s);
    };
    counts_all = none_counted w;
    rest = omega (arith, left_every (length p));
    order = rw (left_every (length p)) (sym (handed_line_by_line p (no_held_in_morning devices p w) w.rules));
  }
    where
      scarce : ℕ
      scarce = scarce_below (tallied p (length p)) devices

  module _ {done places counts : List ℕ} {wa : Waiting} {i : ℕ} (more : 1 ≤ left (among done) (length p)) where
    -- ---- the choice

    foremost_goes : Keeps p done places counts wa false i
        → Shows p (Stands p done) places wa × GoesNext p done places (foremost wa)
    foremost_goes k =
        let s : Shows p (Stands p done) places wa =
        shows_same k.shows (λ n t. (t, λ e. clash false e refl)) (λ n t. t.0) in
        (s, foremost_next ok s k.counts_all more)

    pub keeps_place : (on : Bool) → Keeps p done places counts wa on i → on ≡ false → foremost wa < all_places
    keeps_place true k e = clash true refl e
    keeps_place false k e = (foremost_goes k).1.place

    pub keeps_choice : (on : Bool) → Keeps p done places counts wa on i
        → Chooses p done places wa.scarce (choosing places wa on i)
    unfolding choosing
    keeps_choice true k = record {
      going = k.going refl more;
      beside = shows_same k.shows (λ n t. (t.0, λ e. t.1)) (λ n t. (t.0, t.1 refl));
      scarce_kept = refl;
    }
    keeps_choice false k =
        let f = foremost_goes k in
        let g = f.1 in record {
          going = g.going;
          beside = rw g.its at
              (goes_off (λ n t. place_below w n t.line) (apart w ok.no_two) (get_or places (foremost wa) 0)
              g.going.stands f.0);
          scarce_kept = scarce_vacated wa (foremost wa);
        }

    -- ---- a line is done

    pub keeps_on : {on : Bool} → Keeps p done places counts wa on i → {c : Choice}
        → Chooses p done places wa.scarce c
        → Keeps p (done ++ (c.line ∷ [])) (replaced p places c.line) (counted counts (plain_at p c.line))
        (passed p counts c.others c.line) (goes_on p c.line) (suc c.line)
    unfolding chosen or_else passed replaced
    keeps_on k {c} g = record {
      closed = closed_on w k.closed here;
      going = λ e l. going_on e;
      shows = shown;
      counts_all = rw (
        scarce_arrived p (arrived p (settled counts c.others (plain_at p x)) (lasting_after p x)) (started_line p x),
        scarce_arrived p (settled counts c.others (plain_at p x)) (lasting_after p x),
      ) (one_counted w k.counts_all here.line here.waiting c.others g.scarce_kept);
      rest = omega (arith, k.rest, length-append done (x ∷ []), one_less);
      order = append_assoc done (x ∷ []) (lines_after (left (among next) (length p)) p next)
          ∙ ap (λ (ys : List ℕ). done ++ ys)
          (sym (lines_step (left (among next) (length p)) p done x g.going.choice))
          ∙ (rw one_less at k.order);
    }
      where
        x : ℕ
        x = c.line

        here : Stands p done x
        here = g.going.stands

        next : List ℕ
        next = done ++ (x ∷ [])

        one_less : left (among done) (length p) ≡ suc (left (among next) (length p))
        one_less =
            left_one (among done) (among next) x here.waiting (more_new x done) (λ n q. has_other n x done q)
            (length p) here.line

        going_on : goes_on p x ≡ true → Going p next (suc x)
        going_on e =
            let r = goes_at p x e in
            let s = next_stands w k.closed here r.0 in
            let low = lower_still w k.closed here g.going.low in record {
              stands = s;
              choice = ap (λ (o : Option ℕ). or_else o (lasting_next p (undone p next)))
                  (goes_on_lem p next (suc x) s r.1 low);
              low = low;
            }

        came : (n : ℕ) → (Stands p done n × (n ≢ x)) ⊎ Comes p (lasting_after p x) n → Stands p next n
        came n (inl t) = stayed_stands w k.closed here n t
        came n (inr h) = rw h.0 (lasting_stands w k.closed here h.1)

        below : (n : ℕ) → Stands p next n → place_at p n < all_places
        below n t = place_below w n t.line

        shown : Shows p (Beside p next (goes_on p x) (suc x)) (replaced p places x) (passed p counts c.others x)
        shown =
            shows_same
            (comes_if below (apart w ok.no_two) (started_line p x) came (started_stands w k.closed here)
            (comes_if below (apart w ok.no_two) (lasting_after p x) (stayed_stands w k.closed here)
            (lasting_stands w k.closed here) (shows_settled counts (plain_at p x) g.beside)))
            (beside_placed w k.closed here) (placed_beside w k.closed here)
