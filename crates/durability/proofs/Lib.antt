mod Idle
mod Beginning
