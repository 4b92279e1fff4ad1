use Rattle.std.proofs.Common.{refl}
use Rattle.masks.proofs.Texts.{no_room_left, room_left, walked_bits_pushed, pushed_text, pushed_fits}
use Rattle.masks.proofs.walk.Walk.push.Goals as goal

pub returns-then-len : goal.returns-then-len
returns-then-len c = let full = no_room_left c.self.inside.text c.self.invariant c.if-len.true in rw (← c.self.view_is, full) (record { answer = refl; list = refl })

pub returns : goal.returns
returns c =
    let text = c.self.inside.text in
    let room = room_left text c.self.invariant c.if-len.false in
    rw (← c.self.view_is, room) (record { answer = refl; list = walked_bits_pushed text c.self.invariant c.if-len.false c.args.bit })

pub invariant_of-self : goal.invariant_of-self
invariant_of-self c = pushed_text c.self.inside.text c.self.invariant c.if-len.false c.args.bit

pub overflow_add-self-2 : goal.overflow_add-self-2
overflow_add-self-2 c = record { fits = pushed_fits c.self.inside.text c.self.invariant c.if-len.false c.args.bit }
