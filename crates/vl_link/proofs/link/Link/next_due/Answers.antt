use Rattle.vl_link.proofs.Names.{ℕ, ◌≡◌, ◌&&◌, Bool, true, false, inl, inr, refl, rules, cases_Bool, LinkPlan, Lines, any_up, Pace, is_due, StaysAsIs}
use Rattle.vl_link.proofs.link.Link.next_due.Goals.{then-due-via-then-due, then-due-via-else-due+then-not-any_up}
use Rattle.vl_link.proofs.link.Link.next_due.Goals as goal

both : (a b : Bool) → a ≡ true → b ≡ true → a && b ≡ true
both true b due up = up
both false b due up = due

none : (a b : Bool) → b ≡ false → a && b ≡ false
none true b down = down
none false b down = refl

-- No network that carries the link is up.
down_stays : (now : ℕ) (plan : LinkPlan) (pace : Pace) (lines : Lines) → any_up plan.networks lines ≡ false → StaysAsIs now plan pace lines
down_stays now plan pace lines down = inr (λ m late early. none (is_due pace.gap pace.last m) (any_up plan.networks lines) down)

-- The link is due.
due_stays : (now : ℕ) (plan : LinkPlan) (pace : Pace) (lines : Lines) → is_due pace.gap pace.last now ≡ true → StaysAsIs now plan pace lines
due_stays now plan pace lines due = elim (cases_Bool (any_up plan.networks lines)) [
  | inl up ↦ inl (both (is_due pace.gap pace.last now) (any_up plan.networks lines) due up)
  | inr down ↦ down_stays now plan pace lines down
]

pub returns-then-due : goal.returns-then-due
returns-then-due g c =
    let now = c.args.now in let link = c.args.self.now in let lines = c.args.mux.now in
    elim c.then-due.branch [
      | then-due-via-then-due w ↦ due_stays now link.plan link.pace lines (search rules)
      | then-due-via-else-due+then-not-any_up w ↦ down_stays now link.plan link.pace lines (search rules)
    ]
