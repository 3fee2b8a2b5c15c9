mod Origins
mod Sends
mod Sessions
