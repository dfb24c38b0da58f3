-- What a trail keeps for its prefix: its order, and a count of assignments within its weight.
use Rattle.std.proofs.Common.{Bool, drop, ◌*◌, ◌≡◌, ℕ, suc, ◌+◌, ◌-◌, ◌^◌, ◌<◌, ◌≤◌, true, false, List, [], ◌∷◌, ◌++◌, length, map, take, Contains, None, refl, sym, ap, ◌∙◌, ⊎_elim, arith, append_assoc, length-append, pow_pos, pow-suc}
use Rattle.std.proofs.lemmas.Bool.{cases_lt, false≢true}
use Rattle.std.proofs.lemmas.List.{length-take-le, length-map, map-append, length_push}
use Rattle.prefix.specs.Literal.{Literal}
use Rattle.prefix.specs.Scopes.{Scope, all_variables}
use Rattle.calculus.specs.Search.{Cause, Placed, Trail, MayStand, cut_trail, decisions_on, is_decision, last_level, value_on}
use Rattle.std.proofs.Math.Nat.{mul-le-mul_left}
use Rattle.std.proofs.Math.Seq.{drop-append_seam, take-append_seam}
use Rattle.calculus.specs.Rows.{depth_of}
use Rattle.calculus.specs.Limits.{assignment_limit}
use Rattle.calculus.specs.Weights.{trail_weight}
use Rattle.calculus.specs.Search.Cause.{Assumed, Decided, Propagated}
use Rattle.calculus.proofs.Levels.{depth_at_least}
use Rattle.calculus.proofs.Weighing.{weight_below, weight_rises, weight_turns}
use Rattle.calculus.proofs.Sizes.{trail_length}
use Rattle.calculus.proofs.TrailMoves.{ordered_more}
use Rattle.calculus.proofs.TrailLaws.{cut_ordered}
use Rattle.trail.specs.declared.allowed.Allowed.{Allowed}
use Rattle.trail.specs.declared.allowed.Allowed.TheVariants.{Anything, NoDecision, Nothing}
use Rattle.trail.specs.State.{TrailState, MayFollow, IsWeighed, IsTrailFor, counted, with_finished, with_literal, with_placed, undone_to, allowed_anew, begun_anew, cleared}
use Rattle.trail.specs.Finished.{emptied, is_in}
use Rattle.trail.specs.Open.{AreAssignedBefore, AreFinished, finished_without, is_finished, placed_with}
use Rattle.trail.proofs.Finishing.{finished_longer, finished_none, finished_shorter, finished_then}
use Rattle.trail.proofs.Opening.{still_assigned}
use Rattle.calculus.proofs.Cutting.{IsCutAt, cut_all, cut_at}
use Rattle.trail.proofs.Cutting.{cut_short, undone_low, undone_high}

decisions_length : (trail : Trail) → length (decisions_on trail) ≡ length trail
decisions_length trail = length-map trail (λ (p : Placed). is_decision p.cause)

decisions_append : (front back : Trail) → decisions_on (front ++ back) ≡ decisions_on front ++ decisions_on back
decisions_append front back = map-append (λ (p : Placed). is_decision p.cause) front back

one_more_round : (restarts size : ℕ) → (restarts + 1) * size ≡ restarts * size + size
one_more_round restarts size = omega arith

-- assignments are few
few_by : (n restarts : ℕ) (allowed : Allowed) (trail : Trail) (assigned : ℕ) → length trail ≤ n
    → IsWeighed n restarts allowed trail assigned → assigned + 1 < assignment_limit restarts n
few_by n restarts Anything trail assigned fits h =
    let e : n + 1 ≡ suc n = omega arith in
    let long = decisions_length trail in
    let most : trail_weight n (decisions_on trail) + 2 ≤ 2 ^ (n + 1) =
    rw e (weight_below n (decisions_on trail) (omega arith)) in
    let below : assigned ≤ restarts * 2 ^ (n + 1) + trail_weight n (decisions_on trail) = h in
    let all = one_more_round restarts (2 ^ (n + 1)) in
    omega arith
few_by n restarts NoDecision trail assigned fits h =
    let e : n + 1 ≡ suc n = omega arith in
    let long = decisions_length trail in
    let longer : length (decisions_on trail ++ false ∷ []) ≡ length (decisions_on trail) + 1 =
    length_push (decisions_on trail) false in
    let short : length trail < n = h.0 in
    let most : trail_weight n (decisions_on trail ++ false ∷ []) + 2 ≤ 2 ^ (n + 1) =
    rw e (weight_below n (decisions_on trail ++ false ∷ []) (omega arith)) in
    let below : assigned < restarts * 2 ^ (n + 1) + trail_weight n (decisions_on trail ++ false ∷ []) = h.1 in
    let all = one_more_round restarts (2 ^ (n + 1)) in
    omega arith
few_by n restarts Nothing trail assigned fits h = h.1

pub assigned_few : (scopes : List Scope) (t : TrailState) → IsTrailFor scopes t → t.assigned + 1 < assignment_limit
    t.restarts (length (all_variables scopes))
assigned_few scopes t kept = few_by (length (all_variables scopes)) t.restarts t.allowed t.placed t.assigned
    (trail_length scopes t.placed kept.ordered) kept.weighed

-- an assignment
weighed_more : (n restarts : ℕ) (allowed : Allowed) (trail : Trail) (assigned : ℕ) (p : Placed)
    → IsWeighed n restarts allowed trail assigned → MayFollow allowed p.cause → counted assigned 1 ≤ restarts * 2 ^
    (n + 1) + trail_weight n (decisions_on (trail ++ p ∷ []))
weighed_more n restarts Anything trail assigned p h may =
    let rises : trail_weight n (decisions_on trail) < trail_weight n (decisions_on trail ++ is_decision p.cause ∷ []) =
    weight_rises n (decisions_on trail) (is_decision p.cause) in
    let below : assigned ≤ restarts * 2 ^ (n + 1) + trail_weight n (decisions_on trail) = h in
    rw (decisions_append trail (p ∷ [])) (omega arith)
weighed_more n restarts NoDecision trail assigned p h may =
    let below : assigned < restarts * 2 ^ (n + 1) + trail_weight n (decisions_on trail ++ false ∷ []) = h.1 in
    let same : is_decision p.cause ≡ false = may in
    rw (decisions_append trail (p ∷ []), same) (omega arith)
weighed_more n restarts Nothing trail assigned p h may = absurd may

pub raised_more : (n : ℕ) (trail : Trail) (p : Placed) → trail_weight n (decisions_on trail) < trail_weight n
    (decisions_on (trail ++ p ∷ []))
raised_more n trail p = rw (decisions_append trail (p ∷ [])) (weight_rises n (decisions_on trail) (is_decision p.cause))

-- the literal comes first, and then the scopes that are known to be all assigned
pub kept_placed : (scopes : List Scope) (t : TrailState) (l : Literal) (cause : Cause) → IsTrailFor scopes t
    → Contains (all_variables scopes) l.variable → value_on t.placed l.variable ≡ None
    → MayStand scopes t.placed l.variable cause → MayFollow t.allowed cause → IsTrailFor scopes
    (with_placed t l cause (depth_of scopes l.variable))
kept_placed scopes t l cause kept known fresh order may =
    let p : Placed = record { literal = l; cause = cause } in
    record {
      ordered = ordered_more scopes [] t.placed p kept.ordered known fresh order;
      numbered = ap (λ (ds : List ℕ). ds ++ depth_of scopes l.variable ∷ []) kept.numbered
          ∙ sym (map-append (λ (q : Placed). depth_of scopes q.literal.variable) t.placed (p ∷ []));
      marked = (let one : length (t.marks ++ false ∷ []) ≡ length t.marks + 1 = length_push t.marks false in let two :
          length (t.placed ++ p ∷ []) ≡ length t.placed + 1 = length_push t.placed p in let was = kept.marked in
          omega arith);
      all_assigned = finished_longer scopes t.placed (p ∷ []) t.finished kept.all_assigned;
      weighed = weighed_more (length (all_variables scopes)) t.restarts t.allowed t.placed t.assigned p kept.weighed
          may;
    }

pub kept_finished : (scopes : List Scope) (t : TrailState) (is_full is_decided : Bool) (depth : ℕ) → IsTrailFor scopes t
    → (is_full ≡ true → is_finished scopes t.placed depth ≡ true)
    → (is_decided ≡ true → AreAssignedBefore scopes t.placed depth) → 1 ≤ depth → IsTrailFor scopes
    (with_finished t is_full is_decided depth)
kept_finished scopes t is_full is_decided depth kept full decided first =
    record {
      ordered = kept.ordered;
      numbered = kept.numbered;
      marked = kept.marked;
      all_assigned = finished_then scopes t.placed is_full is_decided depth t.finished kept.all_assigned full decided
          first;
      weighed = kept.weighed;
    }

pub kept_more : (scopes : List Scope) (t : TrailState) (l : Literal) (cause : Cause) → IsTrailFor scopes t
    → Contains (all_variables scopes) l.variable → value_on t.placed l.variable ≡ None
    → MayStand scopes t.placed l.variable cause → MayFollow t.allowed cause → IsTrailFor scopes
    (with_literal scopes t l cause)
kept_more scopes t l cause kept known fresh order may =
    let depth = depth_of scopes l.variable in
    let p : Placed = record { literal = l; cause = cause } in
    kept_finished scopes (with_placed t l cause depth) (is_finished scopes (placed_with t.placed l cause) depth)
    (is_decision cause) depth (kept_placed scopes t l cause kept known fresh order may) (λ full. full)
    (λ is. decided cause order is) (depth_at_least scopes l.variable)
  where
    decided : (c : Cause) → MayStand scopes t.placed l.variable c → is_decision c ≡ true → AreAssignedBefore scopes
        (placed_with t.placed l cause) (depth_of scopes l.variable)
    decided Assumed may is = absurd (false≢true is)
    decided Decided may is = λ x known below. still_assigned t.placed (record { literal = l; cause = cause } ∷ []) x
        (may x known below)
    decided (Propagated id) may is = absurd (false≢true is)

-- a cut
decisions_cut : (b : ℕ) (front trail : Trail) (at : IsCutAt b front trail) → decisions_on trail ≡ decisions_on
    front ++ true ∷ decisions_on at.back
decisions_cut b front trail at =
    ap decisions_on at.parts
    ∙ (decisions_append front (at.decision ∷ at.back) ∙ ap (λ d. decisions_on front ++ d ∷ decisions_on at.back)
    at.is_decision)

length_cut : (b : ℕ) (front trail : Trail) → IsCutAt b front trail → length front < length trail
length_cut b front trail at =
    let parts : length trail ≡ length (front ++ at.decision ∷ at.back) = ap length at.parts in
    let long : length (front ++ at.decision ∷ at.back) ≡ length front + length (at.decision ∷ at.back) =
    length-append front (at.decision ∷ at.back) in
    let more : length (at.decision ∷ at.back) ≡ suc (length at.back) = refl in
    omega arith

pub raised_cut : (n b : ℕ) (trail : Trail) → length trail ≤ n → b < last_level trail
    → trail_weight n (decisions_on trail) < trail_weight n (decisions_on (cut_trail b trail) ++ false ∷ [])
raised_cut n b trail fits high =
    let at = cut_at 0 b trail (omega arith) high in
    let parts = decisions_cut b (cut_trail b trail) trail at in
    let long = decisions_length trail in
    let short : length (decisions_on (cut_trail b trail) ++ true ∷ decisions_on at.back) ≤ n = rw (← parts)
    (omega arith) in
    rw parts (weight_turns n (decisions_on (cut_trail b trail)) (decisions_on at.back) short)

weighed_cut : (n restarts b : ℕ) (allowed : Allowed) (trail : Trail) (assigned : ℕ) → length trail ≤ n
    → b < last_level trail → IsWeighed n restarts allowed trail assigned → IsWeighed n restarts NoDecision
    (cut_trail b trail) assigned
weighed_cut n restarts b Anything trail assigned fits high h =
    let at = cut_at 0 b trail (omega arith) high in
    let shorter = length_cut b (cut_trail b trail) trail at in
    let below : assigned ≤ restarts * 2 ^ (n + 1) + trail_weight n (decisions_on trail) = h in
    let turned = raised_cut n b trail fits high in
    (omega arith, omega arith)
weighed_cut n restarts b NoDecision trail assigned fits high h =
    let front = decisions_on (cut_trail b trail) in
    let at = cut_at 0 b trail (omega arith) high in
    let shorter = length_cut b (cut_trail b trail) trail at in
    let parts : decisions_on trail ++ false ∷ [] ≡ front ++ true ∷ (decisions_on at.back ++ false ∷ []) =
    ap (λ d. d ++ false ∷ []) (decisions_cut b (cut_trail b trail) trail at) ∙ append_assoc front
    (true ∷ decisions_on at.back) (false ∷ []) in
    let short : length trail < n = h.0 in
    let long = decisions_length trail in
    let longer : length (decisions_on trail ++ false ∷ []) ≡ length (decisions_on trail) + 1 =
    length_push (decisions_on trail) false in
    let within : length (front ++ true ∷ (decisions_on at.back ++ false ∷ [])) ≤ n = rw (← parts) (omega arith) in
    let turned : trail_weight n (decisions_on trail ++ false ∷ []) < trail_weight n (front ++ false ∷ []) =
    rw parts (weight_turns n front (decisions_on at.back ++ false ∷ []) within) in
    let below : assigned < restarts * 2 ^ (n + 1) + trail_weight n (decisions_on trail ++ false ∷ []) = h.1 in
    (omega arith, omega arith)
weighed_cut n restarts b Nothing trail assigned fits high h = absurd (let top : b < 0 = rw h.0 at high in omega arith)

numbered_cut : (scopes : List Scope) (b : ℕ) (t : TrailState) → b < last_level t.placed → IsTrailFor scopes t
    → take (length (cut_trail b t.placed)) t.depths ≡ map (λ (p : Placed). depth_of scopes p.literal.variable)
    (cut_trail b t.placed)
numbered_cut scopes b t high kept =
    let depth : Placed → ℕ = λ (p : Placed). depth_of scopes p.literal.variable in
    let front = cut_trail b t.placed in
    let at = cut_at 0 b t.placed (omega arith) high in
    let back : List Placed = at.decision ∷ at.back in
    let parts : t.depths ≡ map depth front ++ map depth back = kept.numbered
    ∙ (ap (map depth) at.parts ∙ map-append depth front back) in
    let long : length (map depth front) ≡ length front = length-map front depth in
    ap (take (length front)) parts ∙ (ap (λ n. take n (map depth front ++ map depth back)) (sym long) ∙ take-append_seam
    (map depth front) (map depth back))

-- no scope of which a literal goes is known as all assigned any more
finished_cut : (scopes : List Scope) (b : ℕ) (t : TrailState) → b < last_level t.placed → IsTrailFor scopes t
    → AreFinished scopes (cut_trail b t.placed)
    (finished_without (drop (length (cut_trail b t.placed)) t.depths) t.finished)
finished_cut scopes b t high kept =
    let depth : Placed → ℕ = λ (p : Placed). depth_of scopes p.literal.variable in
    let front = cut_trail b t.placed in
    let at = cut_at 0 b t.placed (omega arith) high in
    let back : List Placed = at.decision ∷ at.back in
    let parts : t.depths ≡ map depth front ++ map depth back = kept.numbered
    ∙ (ap (map depth) at.parts ∙ map-append depth front back) in
    let long : length (map depth front) ≡ length front = length-map front depth in
    let gone : drop (length front) t.depths ≡ map depth back = ap (drop (length front)) parts
    ∙ (ap (λ n. drop n (map depth front ++ map depth back)) (sym long) ∙ drop-append_seam (map depth front)
    (map depth back)) in
    rw gone (finished_shorter scopes front back t.finished (rw at.parts at kept.all_assigned))

marked_cut : (b : ℕ) (t : TrailState) → length t.marks ≡ length t.placed
    → length (take (length (cut_trail b t.placed)) t.marks) ≡ length (cut_trail b t.placed)
marked_cut b t marked =
    let short = cut_short 0 b t.placed in
    length-take-le (length (cut_trail b t.placed)) t.marks (omega arith)

pub kept_cut : (scopes : List Scope) (b : ℕ) (t : TrailState) → IsTrailFor scopes t → IsTrailFor scopes (undone_to b t)
kept_cut scopes b t kept =
    ⊎_elim
    (λ (high : b < last_level t.placed). rw (undone_high b t high) (record {
      ordered = cut_ordered scopes [] 0 b t.placed kept.ordered;
      numbered = numbered_cut scopes b t high kept;
      marked = marked_cut b t kept.marked;
      all_assigned = finished_cut scopes b t high kept;
      weighed = weighed_cut (length (all_variables scopes)) t.restarts b t.allowed t.placed t.assigned
          (trail_length scopes t.placed kept.ordered) high kept.weighed;
    }))
    (λ (low : last_level t.placed ≤ b). rw (undone_low b t low) kept)
    (cases_lt b (last_level t.placed))

-- more room
pub kept_wider : (scopes : List Scope) (t : TrailState) (placed : Trail) (depths : List ℕ) (marks finished : List Bool)
    (assigned restarts room : ℕ) (allowed : Allowed) → placed ≡ t.placed → depths ≡ t.depths → marks ≡ t.marks
    → ((i : ℕ) → is_in finished i ≡ is_in t.finished i) → assigned ≡ t.assigned → restarts ≡ t.restarts
    → allowed ≡ t.allowed → IsTrailFor scopes t → IsTrailFor scopes
    (record {
      placed = placed;
      depths = depths;
      marks = marks;
      finished = finished;
      assigned = assigned;
      restarts =
          restarts;
      room = room;
      allowed = allowed;
    })
kept_wider scopes t placed depths marks finished assigned restarts room allowed same scoped marked known counts rounds
    may kept =
    record {
      ordered = rw same kept.ordered;
      numbered = scoped ∙ (kept.numbered ∙ ap (map (λ (p : Placed). depth_of scopes p.literal.variable)) (sym same));
      marked = ap length marked ∙ (kept.marked ∙ ap length (sym same));
      all_assigned = λ x i stands depth there. rw same (kept.all_assigned x i stands depth (sym (known i) ∙ there));
      weighed = rw (same, counts, rounds, may) kept.weighed;
    }

-- a restart

two_at_least : (n : ℕ) → 2 ≤ 2 ^ (n + 1)
two_at_least n =
    let one : 1 ≤ 2 ^ n = pow_pos n in
    let twice : 2 ^ suc n ≡ 2 * 2 ^ n = omega (arith, pow-suc 2 n) in
    let e : n + 1 ≡ suc n = omega arith in
    rw e (omega arith)

at_least_twice : (k n : ℕ) → k ≤ k * 2 ^ (n + 1)
at_least_twice k n =
    let one : 1 ≤ 2 ^ (n + 1) = pow_pos (n + 1) in
    let more : k * 1 ≤ k * 2 ^ (n + 1) = mul-le-mul_left k one in
    omega arith

-- one more round has room for all assignments so far, also where the number of rounds stands still
round_for : (n restarts assigned : ℕ) → assigned < 2 ^ 64 → assigned + 1 < assignment_limit restarts n
    → assigned ≤ counted restarts 1 * 2 ^ (n + 1)
round_for n restarts assigned fits few =
    ⊎_elim
    (λ (low : restarts < 2 ^ 64 - 1).
    let is : counted restarts 1 ≡ restarts + 1 = omega arith in
    let below : assigned + 1 < (restarts + 1) * 2 ^ (n + 1) = few in
    rw is (omega arith))
    (λ (high : 2 ^ 64 - 1 ≤ restarts).
    let is : counted restarts 1 ≡ 2 ^ 64 - 1 = omega arith in
    let most = at_least_twice (counted restarts 1) n in
    omega arith)
    (cases_lt restarts (2 ^ 64 - 1))

weighed_anew : (n restarts : ℕ) (allowed : Allowed) (trail : Trail) (assigned : ℕ) → assigned < 2 ^ 64
    → length trail ≤ n → IsWeighed n restarts allowed trail assigned → IsWeighed n (counted restarts 1)
    (allowed_anew allowed) trail assigned
weighed_anew n restarts Anything trail assigned fits short h =
    let most = round_for n restarts assigned fits (few_by n restarts Anything trail assigned short h) in
    omega arith
weighed_anew n restarts NoDecision trail assigned fits short h =
    let most = round_for n restarts assigned fits (few_by n restarts NoDecision trail assigned short h) in
    omega arith
weighed_anew n restarts Nothing trail assigned fits short h =
    let most = round_for n restarts assigned fits h.1 in
    let all = one_more_round (counted restarts 1) (2 ^ (n + 1)) in
    let two : 2 ≤ 2 ^ (n + 1) = two_at_least n in
    (h.0, omega arith)

pub kept_anew : (scopes : List Scope) (t : TrailState) → t.assigned < 2 ^ 64 → IsTrailFor scopes t → IsTrailFor scopes
    (begun_anew t)
kept_anew scopes t fits kept =
    record {
      ordered = kept.ordered;
      numbered = kept.numbered;
      marked = kept.marked;
      all_assigned = kept.all_assigned;
      weighed = weighed_anew (length (all_variables scopes)) t.restarts t.allowed t.placed t.assigned fits
          (trail_length scopes t.placed kept.ordered) kept.weighed;
    }

-- what a restart leaves
pub undone_placed : (t : TrailState) → (undone_to 0 t).placed ≡ cut_trail 0 t.placed
undone_placed t =
    ⊎_elim
    (λ (high : 0 < last_level t.placed). ap (λ (u : TrailState). u.placed) (undone_high 0 t high))
    (λ (low : last_level t.placed ≤ 0). ap (λ (u : TrailState). u.placed) (undone_low 0 t low)
    ∙ sym (cut_all 0 0 t.placed low))
    (cases_lt 0 (last_level t.placed))

allowed_again : (allowed : Allowed) → (allowed ≡ Nothing → ⊥) → allowed_anew allowed ≡ Anything
allowed_again Anything h = refl
allowed_again NoDecision h = refl
allowed_again Nothing h = absurd (h refl)

pub restart_allows : (t : TrailState) → (t.allowed ≡ Nothing → ⊥) → allowed_anew (undone_to 0 t).allowed ≡ Anything
restart_allows t h =
    ⊎_elim
    (λ (high : 0 < last_level t.placed). ap (λ (u : TrailState). allowed_anew u.allowed) (undone_high 0 t high))
    (λ (low : last_level t.placed ≤ 0). ap (λ (u : TrailState). allowed_anew u.allowed) (undone_low 0 t low)
    ∙ allowed_again t.allowed h)
    (cases_lt 0 (last_level t.placed))

pub kept_cleared : (scopes : List Scope) (t : TrailState) → IsTrailFor scopes (cleared t)
kept_cleared scopes t = record {
  ordered = tt;
  numbered = refl;
  marked = refl;
  all_assigned = finished_none scopes [] t.finished;
  weighed = omega arith;
}

-- assumptions that are given up
pub kept_given_up : (scopes : List Scope) (t : TrailState) (placed : Trail) (depths : List ℕ)
    (marks finished : List Bool) (assigned restarts room : ℕ) → IsTrailFor scopes t → placed ≡ [] → depths ≡ []
    → marks ≡ [] → finished ≡ emptied t.finished → assigned ≡ t.assigned → restarts ≡ t.restarts → IsTrailFor scopes
    (record {
      placed = placed;
      depths = depths;
      marks = marks;
      finished = finished;
      assigned = assigned;
      restarts =
          restarts;
      room = room;
      allowed = Nothing;
    })
kept_given_up scopes t placed depths marks finished assigned restarts room kept empty none unmarked known same rounds =
    record {
      ordered = rw empty tt;
      numbered = none ∙ ap (map (λ (p : Placed). depth_of scopes p.literal.variable)) (sym empty);
      marked = ap length unmarked ∙ sym (ap length empty);
      all_assigned = rw known (finished_none scopes placed t.finished);
      weighed = (empty, rw (same, rounds) (assigned_few scopes t kept));
    }
