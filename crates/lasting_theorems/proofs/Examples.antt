-- The examples, computed.
use Prim.Native.Nat.{ℕ}
use mathlib.Core.Path.{◌≡◌, refl, sym, ap, ap₂, ◌∙◌}
use mathlib.Core.Bool.{Bool, true, false, cond, ◌&&◌}
use mathlib.Core.List.{List, [], ◌∷◌, map, Permᴰ}
use native.Mathlib.Omega.{arith}
use lib.ListN.{get_or}
use Rattle.rules.specs.declared.Table.{Table}
use Rattle.rules.specs.declared.Call.{Call}
use Rattle.rules.specs.declared.Done.{Done}
use Rattle.rules.specs.Numbers.{START}
use Rattle.rules.specs.Words.{all, every, below, padded, column}
use Rattle.rules.specs.Events.{met, arrive}
use Rattle.rules.specs.Tasks.{woken, signalled, waited}
use Rattle.rules.specs.Regions.{held}
use Rattle.rules.specs.Queues.{pairs, front, behind as behind_front, laid, largest, before as before_first, place, without}
use Rattle.rules.specs.Election.{smallest, lowest, is_best, best_ready, election, displaced_by}
use Rattle.rules.specs.Urgency.{closed_holders, holds_open, states_with, urgency_by, region_urgency, task_urgency, urgencies, line, heir}
use Rattle.rules.specs.Circles.{onward, ends, meets, no_circle}
use Rattle.rules.specs.Tables.{queue_of}
use Rattle.rules.specs.Validity.{shaped, counts_in_range, priorities_in_range, bounds_in_range, lists_in_range, operators_in_range, holders_in_range, criteria_in_range, zero_past, zero_past_counts, zero_past_lengths, rest_right, states_right, entries_right, one_holder, holder_ready, holder_elected, lengths_right, elected_right, timer_right, timers_right, marks_in_range, open_holders_right, awaits_right, valid}
use Rattle.rules.specs.Answers.{refused}
use Rattle.rules.specs.Fresh.{fresh_table, zero_table}
use Rattle.rules.specs.Refusals.{missing, wrong_state, leaves, inside, closes_circle, stops_holder, reasons, refusal}
use Rattle.rules.specs.Timers.{later, ahead}
use Rattle.rules.specs.Effects.{ringing, ticked, effect}
use Rattle.rules.specs.Step.{step}
use Rattle.exclusion.specs.Marks.{marks, mark, passes_signal}
use Rattle.theorems.specs.Happenings.{Outer, Happening, outside, own, run, calls, outers, Reply, reply, call_replies, outer_statuses}
use Rattle.theorems.proofs.Damaged.{stays_agree}
use Rattle.theorems.proofs.Order.{demand3}
use Rattle.lasting_theorems.specs.Examples.{begun, by, Premise, SameEnd, counting, ticks_first, ticks_later, SameEndTicking, waits, wakes_first, wakes_later, SameEndWaking, sharing, signal_in_line, signal_before, SameEndInLine, signal_inside, signal_behind, OthersDisplaced, elects_first, elects_later, SameEndElecting, OnlyRefusingPasses, FixedPasses, UntouchedPasses, NotInTurn, NotFree, NotPastArm, NotPastDisarm, NotOnlyRefusing, NotFixed, NotUntouched}

-- to unfold one of these is to unfold all that the rules compute with: objects, the check, and a call
unfoldable pub objects : Unit {0}
unfolding all every below padded column met arrive woken signalled waited held pairs front behind_front laid largest before_first place without queue_of
objects = tt

unfoldable pub elections : Unit {0}
unfolding smallest lowest is_best best_ready election displaced_by closed_holders states_with urgency_by region_urgency task_urgency urgencies
elections = tt

unfoldable pub lines : Unit {0}
unfolding holds_open line heir onward ends meets no_circle
lines = tt

unfoldable pub ranges : Unit {0}
unfolding shaped counts_in_range priorities_in_range bounds_in_range lists_in_range operators_in_range holders_in_range criteria_in_range
ranges = tt

unfoldable pub open_regions : Unit {0}
unfolding marks_in_range open_holders_right awaits_right
open_regions = tt

unfoldable pub checks : Unit {0}
unfolding ranges zero_past zero_past_counts zero_past_lengths rest_right states_right entries_right one_holder holder_ready holder_elected lengths_right elected_right timer_right timers_right open_regions valid
checks = tt

unfoldable pub rules : Unit {0}
unfolding objects elections lines checks later ahead ringing ticked fresh_table zero_table missing wrong_state leaves inside closes_circle stops_holder reasons refusal effect step
rules = tt

first_status : List Reply → ℕ
first_status [] = 0
first_status (r ∷ rs) = r.status

first_of : List ℕ → ℕ
first_of [] = 0
first_of (n ∷ ns) = n

pub same_end : SameEnd
unfolding rules passes_signal mark marks
same_end = (
  record {
    is_valid = refl;
    free = (refl, (refl, tt));
    same_calls = refl;
    same_outers = Permᴰ.swap refl refl;
    first_in_turn = (refl, (refl, tt));
    then_in_turn = (refl, (refl, tt));
  },
  refl,
)

ticking : Premise counting ticks_first ticks_later
unfolding rules passes_signal mark marks
ticking =
    record {
      is_valid = refl;
      free = (refl, (refl, tt));
      same_calls = refl;
      same_outers = Permᴰ.trans (Permᴰ.cons refl (Permᴰ.swap refl refl)) (Permᴰ.swap refl refl);
      first_in_turn = (refl, (refl, tt));
      then_in_turn = (refl, (refl, tt));
    }

-- what demand 3 says of an arrangement that meets its premise
agreed : {t : Table} {xs ys : List Happening} → Premise t xs ys → run step t xs ≡ run step t ys
agreed {t} {xs} {ys} p =
    (demand3 t xs ys p.is_valid p.free p.same_calls p.same_outers p.first_in_turn p.then_in_turn).0

pub same_end_ticking : SameEndTicking
unfolding rules
same_end_ticking = (ticking, agreed ticking, refl, refl, refl, refl)

waking : Premise waits wakes_first wakes_later
unfolding rules passes_signal mark marks
waking =
    record {
      is_valid = refl;
      free = (refl, (refl, (refl, tt)));
      same_calls = refl;
      same_outers = Permᴰ.cons refl Permᴰ.nil;
      first_in_turn = (refl, (refl, (refl, tt)));
      then_in_turn = (refl, (refl, (refl, tt)));
    }

pub same_end_waking : SameEndWaking
unfolding rules
same_end_waking = (waking, agreed waking, refl, refl)

in_line : Premise sharing signal_in_line signal_before
unfolding rules passes_signal mark marks
in_line =
    record {
      is_valid = refl;
      free = (refl, (refl, (refl, tt)));
      same_calls = refl;
      same_outers = Permᴰ.cons refl Permᴰ.nil;
      first_in_turn = (refl, (refl, (refl, tt)));
      then_in_turn = (refl, (refl, (refl, tt)));
    }

pub same_end_in_line : SameEndInLine
unfolding rules
same_end_in_line = (in_line, agreed in_line, refl, refl, refl)

aside : Premise waits signal_inside signal_behind
unfolding rules passes_signal mark marks
aside =
    record {
      is_valid = refl;
      free = (refl, (refl, tt));
      same_calls = refl;
      same_outers = Permᴰ.cons refl Permᴰ.nil;
      first_in_turn = (refl, (refl, tt));
      then_in_turn = (refl, (refl, tt));
    }

pub others_displaced : OthersDisplaced
unfolding rules
others_displaced = (aside, agreed aside, refl, refl)

electing : Premise waits elects_first elects_later
unfolding rules passes_signal mark marks
electing =
    record {
      is_valid = refl;
      free = (refl, tt);
      same_calls = refl;
      same_outers = Permᴰ.swap refl refl;
      first_in_turn = (refl, tt);
      then_in_turn = (refl, tt);
    }

pub same_end_electing : SameEndElecting
unfolding rules
same_end_electing = (electing, agreed electing, refl, refl, refl, refl)

pub not_in_turn : NotInTurn
unfolding rules first_status
not_in_turn = (
  (refl, tt),
  (λ i. let no : ◌≡◌ {A = ℕ} 0 2 = i.0 in absurd (omega arith)),
  (λ same. let no : ◌≡◌ {A = ℕ} 0 12 = ap first_status same in absurd (omega arith)),
)

pub not_free : NotFree
unfolding rules first_of
not_free same = let no : ◌≡◌ {A = ℕ} 0 15 = ap first_of same in absurd (omega arith)

pub not_past_arm : NotPastArm
unfolding rules
not_past_arm same = let no : ◌≡◌ {A = ℕ} 1 0 = same in absurd (omega arith)

pub not_past_disarm : NotPastDisarm
unfolding rules
not_past_disarm same = let no : ◌≡◌ {A = ℕ} 0 1 = same in absurd (omega arith)

-- ---- demand 3 alone

pub only_refusing_passes : OnlyRefusingPasses
only_refusing_passes status t xs ys v free same perm i j = stays_agree (λ t c. refused t (status t c)) t (λ c. refl) xs ys same

pub untouched_passes : UntouchedPasses
untouched_passes f back t xs ys v free same perm i j = stays_agree f t (back t) xs ys same

none : {A : Type 0} → List A → Bool
none [] = true
none (x ∷ xs) = false

none_permuted : {xs ys : List Outer} → Permᴰ xs ys → none xs ≡ none ys
unfolding none
none_permuted Permᴰ.nil = refl
none_permuted (Permᴰ.cons e p) = refl
none_permuted (Permᴰ.swap e e') = refl
none_permuted (Permᴰ.trans p q) = none_permuted p ∙ none_permuted q

-- nothing happens where nobody calls and nothing comes from outside
none_happens : (xs : List Happening) → none xs ≡ (none (outers xs) && none (calls xs))
unfolding none
none_happens [] = refl
none_happens (outside o ∷ xs) = refl
none_happens (own c ∷ xs) = sym (and_false (none (outers xs)))
  where
    and_false : (b : Bool) → (b && false) ≡ false
    and_false true = refl
    and_false false = refl

module _ (d : Done) where
  abbrev fixed : Table → Call → Done
  fixed t c = d

  fixed_run : (xs : List Happening) (t : Table) → run fixed t xs ≡ cond (none xs) t d.table
  unfolding none
  fixed_run [] t = refl
  fixed_run (x ∷ xs) t = fixed_run xs d.table ∙ either (none xs)
    where
      either : (b : Bool) → cond b d.table d.table ≡ d.table
      either true = refl
      either false = refl

  fixed_replies : (xs : List Happening) (t : Table) → call_replies fixed t xs ≡ map (λ c. reply d.answer) (calls xs)
  fixed_replies [] t = refl
  fixed_replies (outside o ∷ xs) t = fixed_replies xs d.table
  fixed_replies (own c ∷ xs) t = ap (λ l. reply d.answer ∷ l) (fixed_replies xs d.table)

  fixed_statuses : (xs : List Happening) (t : Table) → outer_statuses fixed t xs ≡ map (λ o. d.answer.status) (outers xs)
  fixed_statuses [] t = refl
  fixed_statuses (outside o ∷ xs) t = ap (λ l. d.answer.status ∷ l) (fixed_statuses xs d.table)
  fixed_statuses (own c ∷ xs) t = fixed_statuses xs d.table

pub fixed_passes : FixedPasses
fixed_passes d t xs ys v free same perm i j =
    let as_many : none xs ≡ none ys = none_happens xs ∙ ap₂ ◌&&◌ (none_permuted perm) (ap none same) ∙ sym (none_happens ys) in (
      fixed_run d xs t ∙ ap (λ b. cond b t d.table) as_many ∙ sym (fixed_run d ys t),
      fixed_replies d xs t ∙ ap (map (λ c. reply d.answer)) same ∙ sym (fixed_replies d ys t),
      fixed_statuses d xs t,
      fixed_statuses d ys t,
    )

-- ---- demand 2 shuts each out: a task that is stopped is started, and the same call of the table of zeros is refused

start_one : Call
start_one = by 0 START 1 0 0

accepted : (step begun start_one).answer.status ≡ 0
unfolding rules start_one
accepted = refl

refused_zeros : (step zero_table start_one).answer.status ≡ 10
unfolding rules start_one
refused_zeros = refl

started : get_or (step begun start_one).table.state 1 0 ≡ 1
unfolding rules start_one
started = refl

not_yet : get_or begun.state 1 0 ≡ 0
unfolding rules
not_yet = refl

pub not_only_refusing : NotOnlyRefusing
not_only_refusing status n meets = n begun start_one (ap (λ d. d.answer.status) (meets begun start_one) ∙ accepted)

pub not_fixed : NotFixed
not_fixed f a fixed meets =
    let one : a.status ≡ 0 = ap (λ x. x.status) (sym (fixed begun start_one)) ∙ ap (λ d. d.answer.status) (meets begun start_one) ∙ accepted in
    let other : a.status ≡ 10 =
    ap (λ x. x.status) (sym (fixed zero_table start_one)) ∙ ap (λ d. d.answer.status) (meets zero_table start_one) ∙ refused_zeros in
    let no : ◌≡◌ {A = ℕ} 0 10 = sym one ∙ other in
    omega arith

pub not_untouched : NotUntouched
not_untouched f same meets =
    let back : (step begun start_one).table ≡ begun = ap (λ d. d.table) (sym (meets begun start_one)) ∙ same begun start_one in
    let no : ◌≡◌ {A = ℕ} 1 0 = sym started ∙ ap (λ t. get_or t.state 1 0) back ∙ not_yet in
    omega arith
