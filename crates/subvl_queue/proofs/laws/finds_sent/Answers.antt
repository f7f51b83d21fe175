use Rattle.subvl_queue.proofs.Names.{ℕ, length, sym, subst, ap, ◌∙◌, ◌≡◌, Some, SenderView, ReceiverView, HasAt, HaveRows, IsLast, heard_from, brought_by}
use Rattle.subvl_queue.proofs.Senders.{has_sent, hears_last, hears_sent, last_is}
use Rattle.subvl_queue.proofs.laws.finds_sent.Goals as goal

pub returns-clause-found : goal.returns-clause-found
returns-clause-found c = λ last.
    let r = c.args.receiver.now in
    let t = c.send_slice.new.self in
    let h = has_sent c.args.sender.now t c.args.bytes.now c.in_ok-send_slice.ensures.ok c.hear.ensures.counts in
    let next : h.place ≡ length r.taken = last_is c.args.sender.now t h.place (length r.taken) h.places
    (subst (λ (s : SenderView). IsLast s.places (length r.taken)) c.hear.ensures.sender last) in
    let here : HasAt (heard_from r t).heard (length r.taken) (t.port, c.args.bytes.now) =
    subst (λ (p : ℕ). HasAt (heard_from r t).heard p (t.port, c.args.bytes.now)) next (hears_sent r c.args.sender.now t c.args.bytes.now h) in
    c.take.ensures.heard (t.port, c.args.bytes.now)
    (subst (λ (v : ReceiverView). HasAt v.heard (length v.taken) (t.port, c.args.bytes.now)) (sym c.hear.ensures.receiver) here)
    ∙ ap (λ (s : SenderView). Some (s.port, c.args.bytes.now)) (sym c.hear.ensures.sender)

pub returns-clause-alone : goal.returns-clause-alone
returns-clause-alone c = λ one all.
    let r = c.args.receiver.now in
    let t = c.send_slice.new.self in
    let h = has_sent c.args.sender.now t c.args.bytes.now c.in_ok-send_slice.ensures.ok c.hear.ensures.counts in
    let after = c.hear.ensures.receiver in
    let rows : HaveRows (heard_from r t).heard = subst (λ (v : ReceiverView). HaveRows v.heard) after
    (c.take.ensures.alone (ap (λ (v : ReceiverView). v.ports) after ∙ one)) in
    let next : h.place ≡ length r.taken = sym h.at ∙ rows (brought_by t) (hears_last r t) (length c.args.sender.now.own) h.within ∙ sym all in
    let here : HasAt (heard_from r t).heard (length r.taken) (t.port, c.args.bytes.now) =
    subst (λ (p : ℕ). HasAt (heard_from r t).heard p (t.port, c.args.bytes.now)) next (hears_sent r c.args.sender.now t c.args.bytes.now h) in
    c.take.ensures.heard (t.port, c.args.bytes.now)
    (subst (λ (v : ReceiverView). HasAt v.heard (length v.taken) (t.port, c.args.bytes.now)) (sym after) here)
    ∙ ap (λ (s : SenderView). Some (s.port, c.args.bytes.now)) (sym c.hear.ensures.sender)
